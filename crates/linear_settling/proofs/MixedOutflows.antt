-- Outflows that are two others together.
use Rattle.std.proofs.Common.{◌*◌, ◌≤◌, ◌<◌, Bool, true, arith}
use Rattle.gcl_core.specs.meaning.Value.{State}
use Rattle.gcl_core.specs.meaning.Blocks.{End}
use Rattle.gcl_core.specs.weighing.Fractions.{Fraction, zero_share, plus, times}
use Rattle.gcl_core.specs.weighing.WeightedEnds.{Weighted}
use Rattle.table_flow.specs.Tables.{Table}
use Rattle.unlimited_law.specs.Alike.{AreFractions, Alike}
use Rattle.unlimited_law.specs.Settling.{Outflow, total, IsOutflow, SettlesBoth}
use Rattle.unlimited_law.proofs.Numbers.{◌⊕◌, ◌⊗◌, ◌≃◌, nought, same_refl, same_sym, same_trans, add_same, times_same, times_nought, add_nought}
use Rattle.unlimited_law.proofs.FractionNumbers.{of, of_zero, of_plus, of_times, of_equal, equal_of}
use Rattle.unlimited_law.proofs.SameWeights.{sum_some, sum_is}
use Rattle.unlimited_law.proofs.Covers.{sign}
use Rattle.linear_settling.specs.Mixed.{mixed}
use Rattle.linear_settling.proofs.Mixtures.{product_some, Mixes, mixed_sum, mixes_joined, mixes_same, mixes_append}

-- all weights of an outflow are fractions
pub record Fair (f : Outflow) : Type 0 where
  pub next : AreFractions f.next
  pub ended : AreFractions f.ended
  pub some : 1 ≤ f.turns.1

pub outflow_fair : {f : Outflow} {after : Table} {gone : Weighted End} {cost : Fraction} → IsOutflow Alike Alike f after gone cost → Fair f
outflow_fair {f} {after} {gone} {cost} o = record { next = o.next.first; ended = o.ended.first; some = o.fraction }

module _ (w : Fraction) (some : 1 ≤ w.1) where
  -- ---- turns
  pub mixed_some : (p q : Fraction) → 1 ≤ p.1 → 1 ≤ q.1 → 1 ≤ (plus (times w p) q).1
  mixed_some p q h k = product_some (w.1 * p.1) q.1 (product_some w.1 p.1 some h) k

  mixed_of : (p q : Fraction) → 1 ≤ p.1 → 1 ≤ q.1 → of (plus (times w p) q) ≃ of w ⊗ of p ⊕ of q
  mixed_of p q h k =
      let z = product_some w.1 p.1 some h in
      same_trans (of_plus (times w p) q (omega arith) (omega arith)) (add_same (of_times w p) (same_refl (of q)))

  -- costs that are two others together
  pub record Costs (p q cost : Fraction) : Type 0 where
    pub first : 1 ≤ p.1
    pub second : 1 ≤ q.1
    pub fraction : 1 ≤ cost.1
    pub whole : of cost ≃ of w ⊗ of p ⊕ of q

  pub costs_nothing : Costs zero_share zero_share zero_share
  costs_nothing = record {
    first = omega arith;
    second = omega arith;
    fraction = omega arith;
    whole = let z = of_zero 1 in same_trans z (same_sym (same_trans (add_same (same_trans (times_same (of w) z) (times_nought (of w))) z) (add_nought nought)));
  }

  pub costs_turns : (p q : Fraction) → 1 ≤ p.1 → 1 ≤ q.1 → Costs p q (plus (times w p) q)
  costs_turns p q h k = record { first = h; second = k; fraction = mixed_some p q h k; whole = mixed_of p q h k }

  pub costs_plus : (p q c p' q' c' : Fraction) → Costs p q c → Costs p' q' c' → Costs (plus p p') (plus q q') (plus c c')
  costs_plus p q c p' q' c' h k =
      let a : 0 < p.1 = let z = h.first in omega arith in
      let a' : 0 < p'.1 = let z = k.first in omega arith in
      let b : 0 < q.1 = let z = h.second in omega arith in
      let b' : 0 < q'.1 = let z = k.second in omega arith in
      let d : 0 < c.1 = let z = h.fraction in omega arith in
      let d' : 0 < c'.1 = let z = k.fraction in omega arith in
      record {
        first = product_some p.1 p'.1 h.first k.first;
        second = product_some q.1 q'.1 h.second k.second;
        fraction = product_some c.1 c'.1 h.fraction k.fraction;
        whole = same_trans (of_plus c c' d d')
            (same_trans (add_same h.whole k.whole)
            (same_trans (mixed_sum (of w) (of p) (of p') (of q) (of q'))
            (same_sym (add_same (times_same (of w) (of_plus p p' a a')) (of_plus q q' b b')))));
      }

  pub costs_total : {I J K : Table} → Mixes w I J K → Costs (total I) (total J) (total K)
  costs_total {I} {J} {K} h =
      let test : State → Bool = λ s. true in
      record {
        first = let z = sum_some test I h.first in omega arith;
        second = let z = sum_some test J h.second in omega arith;
        fraction = let z = sum_some test K h.fractions in omega arith;
        whole = same_trans (sum_is test K h.fractions)
            (same_trans (h.each (sign test)) (same_sym (add_same (times_same (of w) (sum_is test I h.first)) (sum_is test J h.second))));
      }

  -- ---- outflows
  pub outflow_mixes : {f g : Outflow} {after after' whole : Table} {gone gone' all : Weighted End} {cost cost' sum : Fraction} →
      IsOutflow Alike Alike f after gone cost → IsOutflow Alike Alike g after' gone' cost' → Mixes w after after' whole → Mixes w gone gone' all → Costs cost cost' sum →
      IsOutflow Alike Alike (mixed w f g) whole all sum
  outflow_mixes {f} {g} {after} {after'} {whole} {gone} {gone'} {all} {cost} {cost'} {sum} o q a e c =
      let t = mixed_some f.turns g.turns o.fraction q.fraction in
      let p : 0 < f.turns.1 = let z = o.fraction in omega arith in
      let r : 0 < g.turns.1 = let z = q.fraction in omega arith in
      let x : 0 < cost.1 = let z = c.first in omega arith in
      let y : 0 < cost'.1 = let z = c.second in omega arith in
      record {
        next = mixes_same w (mixes_joined w f.next g.next some o.next.first q.next.first) a o.next q.next;
        ended = mixes_same w (mixes_joined w f.ended g.ended some o.ended.first q.ended.first) e o.ended q.ended;
        turns = equal_of (plus (times w f.turns) g.turns) sum (omega arith) (let z = c.fraction in omega arith)
            (same_trans (mixed_of f.turns g.turns o.fraction q.fraction)
            (same_trans (add_same (times_same (of w) (of_equal f.turns cost p x o.turns)) (of_equal g.turns cost' r y q.turns)) (same_sym c.whole)));
        fraction = t;
      }

  -- what goes on, and what ended, of two outflows that are put together
  pub next_joined : {f g : Outflow} → Fair f → Fair g → Mixes w f.next g.next (mixed w f g).next
  next_joined {f} {g} h k = mixes_joined w f.next g.next some h.next k.next

  pub ended_joined : {f g : Outflow} → Fair f → Fair g → Mixes w f.ended g.ended (mixed w f g).ended
  ended_joined {f} {g} h k = mixes_joined w f.ended g.ended some h.ended k.ended

  pub turns_joined : {f g : Outflow} → Fair f → Fair g → Costs f.turns g.turns (mixed w f g).turns
  turns_joined {f} {g} h k = costs_turns f.turns g.turns h.some k.some

  pub both_mixes : {E E' X : Weighted End} {g h f g' h' f' : Outflow} → Fair g → Fair h → Fair g' → Fair h' → Mixes w E E' X →
      SettlesBoth Alike Alike E g h f → SettlesBoth Alike Alike E' g' h' f' → SettlesBoth Alike Alike X (mixed w g g') (mixed w h h') (mixed w f f')
  both_mixes {E} {E'} {X} {g} {h} {f} {g'} {h'} {f'} a b c d x o q =
      outflow_mixes o q (mixes_append w (next_joined a c) (next_joined b d)) (mixes_append w x (mixes_append w (ended_joined a c) (ended_joined b d)))
      (costs_plus g.turns g'.turns (mixed w g g').turns h.turns h'.turns (mixed w h h').turns (turns_joined a c) (turns_joined b d))
