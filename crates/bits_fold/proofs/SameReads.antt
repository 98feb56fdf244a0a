-- What a table reads in a block depends on what its states weigh alone; and it may be said as another table, and bits, that weigh the same.
use Rattle.std.proofs.Common.{ℕ, ◌-◌, ◌≤◌, Bool, true, false, ◌<◌, List, ◌++◌, None, refl, sym, arith, subst}
use Rattle.std.specs.List.{sum}
use Rattle.numbers.specs.Fraction.{IsEqual}
use Rattle.numbers.proofs.Divisors.{equal_trans}
use Rattle.gcl_core.specs.meaning.Arms.{parts_of}
use Rattle.gcl_core.specs.meaning.Blocks.{End}
use Rattle.gcl_core.specs.meaning.Bounds.{StatementIsWeighed, BlockIsWeighed, ArmsAreWeighed}
use Rattle.gcl_core.specs.meaning.Draw.{last_end, choice_ends}
use Rattle.gcl_core.specs.meaning.Parts.{partial_sums}
use Rattle.gcl_core.specs.meaning.Syntax.{Expression, Statement, Skip, Set, If, While, Choice, Choose, Uniform, Observe, Statements, done, ◌▸◌, ArmList, no_arm, arm}
use Rattle.gcl_core.specs.meaning.Value.{value_of}
use Rattle.gcl_core.specs.weighing.Fractions.{Fraction, zero_share, plus}
use Rattle.gcl_core.specs.weighing.WeightedEnds.{class_weight, statement_weighted}
use Rattle.gcl_core.proofs.PartialSums.{last_is}
use Rattle.table_flow.specs.Tables.{Table, holds, fails, statement_flow, fractions_kind}
use Rattle.table_flow.proofs.FlowWords.{drawn_each, drawn_bound}
use Rattle.table_flow.proofs.Positive.{p_one}
use Rattle.table_flow.proofs.EqualFractions.{equal_plus}
use Rattle.table_flow.proofs.UniformLists.{reached_by_list}
use Rattle.weighing_law.proofs.Shares.{product_pos}
use Rattle.unlimited_law.specs.Alike.{Alike}
use Rattle.unlimited_law.proofs.Numbers.{Rational, ◌≃◌, same_sym, same_trans}
use Rattle.unlimited_law.proofs.FractionNumbers.{of, equal_of}
use Rattle.unlimited_law.proofs.Integrals.{integral}
use Rattle.unlimited_law.proofs.FlowIntegrals.{counted, skip_counted, set_counted, seen_counted, drawn_counted}
use Rattle.unlimited_law.specs.Settling.{total}
use Rattle.unlimited_law.proofs.Covers.{sign}
use Rattle.unlimited_law.proofs.SameWeights.{alike_integral}
use Rattle.unlimited_law.proofs.SameWeights as weights
use Rattle.unlimited_law.proofs.BlockLimits.{all_fractions, all_positive, behind_fractions}
use Rattle.unlimited_law.proofs.Likeness.{alike_trans}
use Rattle.exact_fold.proofs.SameLists.{alike_refl, alike_sym, alike_append, alike_scaled, alike_next, alike_only}
use Rattle.bits_law.specs.Price.{Price, price_of_draw, price_of_draws}
use Rattle.bits_law.specs.Reading.{Comes, TurnCosts, StatementCosts, BlockCosts, ArmsCost}
use Rattle.bits_law.proofs.TableReads.{each_some, each_is, bound_some, bound_is}
use Rattle.bits_law.proofs.BlockTends.{block_some, arms_some}

same : (p : Fraction) → IsEqual p p
same p = refl

equal_turned : (p q : Fraction) → IsEqual p q → IsEqual q p
equal_turned p q e = sym e

-- ---- what comes of a table, said of another
comes_from : (J : Table) (bits : Fraction) (after other : Table) (read : Fraction) → Alike after other → Comes J bits after read → Comes J bits other read
comes_from J bits after other read h o = record { next = alike_trans J after other o.next h; equal = o.equal; fraction = o.fraction }

comes_at : (J : Table) (bits : Fraction) (after : Table) (read other : Fraction) → 0 < read.1 → IsEqual read other → Comes J bits after read → Comes J bits after other
comes_at J bits after read other some e o = record { next = o.next; equal = equal_trans bits read other some o.equal e; fraction = o.fraction }

pub comes_as : (J K : Table) (bits more : Fraction) (after : Table) (read : Fraction) → Alike K J → IsEqual more bits → 1 ≤ more.1 → Comes J bits after read → Comes K more after read
comes_as J K bits more after read h e some o = record {
  next = alike_trans K J after h o.next;
  equal = equal_trans more bits read (let z = o.fraction in omega arith) e o.equal;
  fraction = some;
}

-- ---- by a price
module _ (price : Price) where
  module _ (I J : Table) (h : Alike I J) where
    -- the bits of draws
    bits_each : (ends : List ℕ) → 0 < last_end ends → IsEqual (price_of_draws price (drawn_each ends I)) (price_of_draws price (drawn_each ends J))
    bits_each ends some =
        equal_of _ _ (each_some price ends some I (all_positive I h.first)) (each_some price ends some J (all_positive J h.second))
        (same_trans (each_is price ends some I (all_positive I h.first)) (same_trans (alike_integral I J h (λ s. of (price_of_draw price None ends))) (same_sym (each_is price ends some J (all_positive J h.second)))))

    bits_bound : (e : Expression) → IsEqual (price_of_draws price (drawn_bound (value_of e) I)) (price_of_draws price (drawn_bound (value_of e) J))
    bits_bound e =
        equal_of _ _ (bound_some price (value_of e) I (all_positive I h.first)) (bound_some price (value_of e) J (all_positive J h.second))
        (same_trans (bound_is price (value_of e) I (all_positive I h.first)) (same_trans (alike_integral I J h _) (same_sym (bound_is price (value_of e) J (all_positive J h.second)))))

    -- what goes on after a statement of which no other is a part
    alone_next : (st : Statement) → StatementIsWeighed st → ((H : End → Rational) (K : Table) → integral (λ s. integral H (statement_weighted 0 None st s)) K ≃ counted H (statement_flow 0 None st K).next (statement_flow 0 None st K).ended) →
        Alike (statement_flow 0 None st J).next (statement_flow 0 None st I).next
    alone_next st w same =
        let i = p_one 0 None st I w (all_positive I h.first) in
        let j = p_one 0 None st J w (all_positive J h.second) in
        alike_sym (alike_next h (statement_weighted 0 None st) (statement_flow 0 None st) same (all_fractions _ i.next) (all_fractions _ j.next))

  -- ---- from a table that weighs the same
  mutual
    pub statement_from : (st : Statement) → StatementIsWeighed st → (I I' J : Table) (bits : Fraction) → Alike I I' → StatementCosts price st I' J bits → StatementCosts price st I J bits
    statement_from Skip w I I' J bits h o =
        comes_from J bits _ _ zero_share (alone_next I I' h Skip w skip_counted) o
    statement_from (Set x e) w I I' J bits h o =
        comes_from J bits _ _ zero_share (alone_next I I' h (Set x e) w (λ H K. set_counted H x (value_of e) K)) o
    statement_from (Observe e) w I I' J bits h o =
        comes_from J bits _ _ zero_share (alone_next I I' h (Observe e) w (λ H K. seen_counted H (value_of e) K)) o
    statement_from (Uniform x e) w I I' J bits h o =
        let d = price_of_draws price (drawn_bound (value_of e) I') in
        let o' = subst (λ d. Comes J bits (statement_flow 0 None (Uniform x e) I').next (price_of_draws price d)) (reached_by_list fractions_kind None x (value_of e) I') o in
        rw (reached_by_list fractions_kind None x (value_of e) I)
        (comes_at J bits _ d _ (bound_some price (value_of e) I' (all_positive I' h.second)) (equal_turned _ d (bits_bound I I' h e))
        (comes_from J bits _ _ d (alone_next I I' h (Uniform x e) w (λ H K. drawn_counted H x (value_of e) K)) o'))
    statement_from (If e a c) w I I' J bits h o = (
      o.0,
      o.1,
      o.2,
      o.3,
      block_from a w.0 _ _ o.0 o.2 (alike_only (holds (value_of e)) h) o.4,
      block_from c w.1 _ _ o.1 o.3 (alike_only (fails (value_of e)) h) o.5,
      o.6,
    )
    statement_from (Choice p a c) w I I' J bits h o =
        let some : 0 < p.den = let z = w.0.positive in omega arith in
        let ends = choice_ends p in
        let d = price_of_draws price (drawn_each ends I') in
        let y = block_some price a _ o.0 o.2 o.4 in
        let z = block_some price c _ o.1 o.3 o.5 in
        let yz = plus o.2 o.3 in
        let ds = each_some price ends some I' (all_positive I' h.second) in (
          o.0,
          o.1,
          o.2,
          o.3,
          block_from a w.1 _ _ o.0 o.2 (alike_scaled (class_weight p.den None p.num) some h) o.4,
          block_from c w.2 _ _ o.1 o.3 (alike_scaled (class_weight p.den None (p.den - p.num)) some h) o.5,
          comes_at J bits _ (plus d yz) _ (product_pos d.1 yz.1 ds (product_pos o.2.1 o.3.1 y z)) (equal_plus d _ yz yz (equal_turned _ d (bits_each I I' h ends some)) (same yz)) o.6,
        )
    statement_from (Choose arms) w I I' J bits h o =
        let some : 0 < sum (parts_of arms) = let z = w.0.positive in omega arith in
        let ends = partial_sums (parts_of arms) in
        let last : 0 < last_end ends = let e = last_is (parts_of arms) in omega arith in
        let d = price_of_draws price (drawn_each ends I') in
        let y = arms_some price (sum (parts_of arms)) arms _ o.0 o.1 o.2 in (
          o.0,
          o.1,
          arms_from (sum (parts_of arms)) some arms w.1 I I' o.0 o.1 h o.2,
          comes_at J bits _ (plus d o.1) _ (product_pos d.1 o.1.1 (each_some price ends last I' (all_positive I' h.second)) y) (equal_plus d _ o.1 o.1 (equal_turned _ d (bits_each I I' h ends last)) (same o.1)) o.3,
        )
    statement_from (While e a) w I I' J bits h o =
        let v = o.4 in
        let back = behind_fractions I' v.0 v.3.second in
        (o.0, o.1, o.2, o.3, (v.0, v.1, v.2, alike_trans _ (I' ++ v.0) (I ++ v.0) v.3 (alike_append (alike_sym h) (alike_refl v.0 back)), v.4), o.5, o.6)

    pub block_from : (b : Statements) → BlockIsWeighed b → (I I' J : Table) (bits : Fraction) → Alike I I' → BlockCosts price b I' J bits → BlockCosts price b I J bits
    block_from done w I I' J bits h o = comes_from J bits I' I zero_share (alike_sym h) o
    block_from (st ▸ b) w I I' J bits h o = (o.0, o.1, o.2, o.3, statement_from st w.0 I I' o.0 o.2 h o.4, o.5, o.6)

    arms_from : (b : ℕ) → 0 < b → (arms : ArmList) → ArmsAreWeighed arms → (I I' J : Table) (bits : Fraction) → Alike I I' → ArmsCost price b arms I' J bits → ArmsCost price b arms I J bits
    arms_from b some no_arm w I I' J bits h o = o
    arms_from b some (arm p a arms) w I I' J bits h o = (
      o.0,
      o.1,
      o.2,
      o.3,
      block_from a w.0 _ _ o.0 o.2 (alike_scaled (class_weight b None p) some h) o.4,
      arms_from b some arms w.1 I I' o.1 o.3 h o.5,
      o.6,
    )

  -- ---- to a table and bits that weigh the same
  pub block_as : (b : Statements) (I J K : Table) (bits more : Fraction) → Alike K J → IsEqual more bits → 1 ≤ more.1 → BlockCosts price b I J bits → BlockCosts price b I K more
  block_as done I J K bits more h e some o = comes_as J K bits more I zero_share h e some o
  block_as (st ▸ b) I J K bits more h e some o = (o.0, o.1, o.2, o.3, o.4, o.5, comes_as J K bits more o.1 (plus o.2 o.3) h e some o.6)

  -- ---- a turn of a loop
  turn_of : (turns : Bool) (a : Statements) → BlockIsWeighed a → (I I' J : Table) (bits : Fraction) → Alike I I' → TurnCosts turns (BlockCosts price a) I' J bits → TurnCosts turns (BlockCosts price a) I J bits
  turn_of false a w I I' J bits h o = block_from a w I I' J bits h o
  turn_of true a w I I' J bits h o =
      let f = h.first in
      let g = h.second in
      let S = total I in
      let T = total I' in
      let ts = weights.sum_some (λ s. true) I' g in
      let same_total : IsEqual T S =
      equal_of T S ts (weights.sum_some (λ s. true) I f)
      (same_trans (weights.sum_is (λ s. true) I' g) (same_trans (same_sym (alike_integral I I' h (sign (λ s. true)))) (same_sym (weights.sum_is (λ s. true) I f)))) in (
        o.0,
        block_from a w I I' J o.0 h o.1,
        equal_trans bits (plus T o.0) (plus S o.0) (product_pos T.1 o.0.1 ts (block_some price a I' J o.0 o.1)) o.2 (equal_plus T S o.0 o.0 same_total refl),
        o.3,
      )

  pub turn_from : (a : Statements) → BlockIsWeighed a → (I I' J : Table) (bits : Fraction) → Alike I I' → TurnCosts price.turns (BlockCosts price a) I' J bits → TurnCosts price.turns (BlockCosts price a) I J bits
  turn_from = turn_of price.turns
