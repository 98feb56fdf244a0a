-- The arms of a choice among several, one after the other.
use Rattle.std.proofs.Common.{◌≡◌, ℕ, ◌+◌, ◌*◌, ◌≤◌, ◌<◌, [], ◌++◌, None, refl, sym, subst, append_assoc, append-nil, arith}
use Rattle.gcl_core.specs.meaning.Bounds.{BlockIsWeighed}
use Rattle.gcl_core.specs.meaning.Blocks.{End}
use Rattle.gcl_core.specs.meaning.Syntax.{Statements, ArmList, no_arm, arm}
use Rattle.gcl_core.specs.weighing.Fractions.{Fraction, zero_share, plus}
use Rattle.gcl_core.specs.weighing.WeightedEnds.{Weighted, scaled, class_weight}
use Rattle.numbers.specs.Fraction.{IsEqual}
use Rattle.numbers.proofs.Divisors.{equal_trans}
use Rattle.table_flow.specs.Tables.{Table}
use Rattle.table_flow.specs.Width.{weights}
use Rattle.table_flow.specs.Counts.{all_kept, none_stopped}
use Rattle.table_flow.proofs.Amounts.{all_first, all_second}
use Rattle.table_flow.proofs.Denominators.{weights_whole}
use Rattle.table_flow.proofs.Positive.{p_scaled, a_append, weights_positive}
use Rattle.mass_fold.specs.declared.ended.Ended.{Ended}
use Rattle.mass_fold.specs.inner.Amounts.{Entries}
use Rattle.mass_fold.specs.inner.Ended.{rows_of}
use Rattle.mass_fold.specs.inner.Steps.{StepsTo}
use Rattle.mass_fold.specs.inner.Fold.{WeighedBy}
use Rattle.mass_fold.proofs.Sides.{count_equal}
use Rattle.unlimited_law.specs.Alike.{AreFractions, Alike}
use Rattle.unlimited_law.specs.Settling.{Outflow, IsOutflow, BlockSettles, ArmsSettle}
use Rattle.unlimited_law.proofs.Likeness.{alike_trans}
use Rattle.exact_fold.specs.inner.Settled.{as_table, AreAbove, AreUnlimited, SettlesFrom}
use Rattle.unlimited_law.proofs.BlockLimits.{behind_fractions}
use Rattle.unlimited_law.proofs.ByState.{append_fractions}
use Rattle.exact_fold.proofs.SameLists.{alike_refl, alike_append, alike_chain, product_some}
use Rattle.exact_fold.proofs.SameInputs.{block_from}
use Rattle.exact_fold.proofs.FreeFlows.{unlimited_append}
use Rattle.exact_fold.proofs.Steps.{at_scale, above_positive, above_fractions, stands_itself, stands_alike, held_above, merged_alike}

-- ---- one arm's side
pub record Side (w : Fraction) (es side : Entries) : Type 0 where
  pub above : AreAbove side
  pub alike : Alike (as_table side) (scaled w (as_table es))

pub side_alike : (b p : ℕ) (part : Fraction) (es side : Entries) → 0 < b → IsEqual part (class_weight b None 1) → WeighedBy part p es side → AreAbove es → Side (class_weight b None p) es side
side_alike b p part es side some e d h =
    let I = as_table es in
    let u = class_weight b None p in
    let A = scaled u I in
    let ip = above_positive es h in
    let t = at_scale (weights I ++ weights A) (a_append (weights I) _ (weights_positive I ip) (weights_positive A (p_scaled u I some ip))) in
    let N = t.scale in
    let w1 = weights_whole N I (all_first N (weights I) _ t.whole) in
    let w2 = weights_whole N A (all_second N (weights I) (weights A) t.whole) in
    let s = d u some (count_equal b None p part e) N I t.some w1 w2 (stands_itself N es h w1) in
    record { above = held_above N side s.kept; alike = stands_alike N side A t.some w2 s }

-- ---- outflows of one value
out_like : (f h : Outflow) (after : Table) (gone : Weighted End) (cost : Fraction) → IsOutflow Alike Alike f h.next h.ended h.turns → IsOutflow Alike Alike h after gone cost → IsOutflow Alike Alike f after gone cost
out_like f h after gone cost l o = record {
  next = alike_trans f.next h.next after l.next o.next;
  ended = alike_trans f.ended h.ended gone l.ended o.ended;
  turns = equal_trans f.turns h.turns cost (let z = o.fraction in omega arith) l.turns o.turns;
  fraction = l.fraction;
}

arms_like : (b : ℕ) (arms : ArmList) (I : Table) (f h : Outflow) → IsOutflow Alike Alike f h.next h.ended h.turns → ArmsSettle Alike Alike b arms I h → ArmsSettle Alike Alike b arms I f
arms_like b no_arm I f h l o = out_like f h _ _ _ l o
arms_like b (arm p a arms) I f h l o = (o.0, o.1, o.2, o.3, out_like f h _ _ _ l o.4)

zero_more : (t h : Fraction) → t.0 * (1 * h.1) ≡ (0 * h.1 + h.0 * 1) * t.1 → t.0 * h.1 ≡ h.0 * t.1
zero_more t h e = omega arith

more_zero : (t : Fraction) → t.0 * (t.1 * 1) ≡ (t.0 * 1 + 0 * t.1) * t.1
more_zero t = omega arith

three : (f a b c : Fraction) → IsEqual f (plus (plus a b) c) → IsEqual f (plus a (plus b c))
three f a b c e = omega arith

-- ---- in the midst of the arms
pub record ArmsSoFar (b : ℕ) (all rest : ArmList) (es : Entries) (E : Ended) (out : Entries) (F : Ended) : Type 0 where
  pub above : AreAbove out
  pub ended : Weighted End
  pub turns : Fraction
  pub some : 1 ≤ turns.1
  pub adds : Alike (rows_of F) (rows_of E ++ ended)
  pub unlimited : AreUnlimited ended
  pub left : (h f : Outflow) → AreFractions h.next → AreFractions h.ended → 1 ≤ h.turns.1 → ArmsSettle Alike Alike b rest (as_table es) h →
      IsOutflow Alike Alike f (as_table out ++ h.next) (ended ++ h.ended) (plus turns h.turns) → ArmsSettle Alike Alike b all (as_table es) f

abbrev pub ArmsFrom : ℕ → ArmList → ArmList → Entries → Ended → Entries → Ended → Type 0
ArmsFrom b all rest es E out F = AreAbove es → AreFractions (rows_of E) → ArmsSoFar b all rest es E out F

pub arms_start : (b : ℕ) (all : ArmList) (es : Entries) (E : Ended) (out : Entries) → out ≡ [] → ArmsFrom b all all es E out E
arms_start b all es E out e = subst (λ out. ArmsFrom b all all es E out E) (sym e) by
  where
    by : ArmsFrom b all all es E [] E
    by h u = record {
      above = tt;
      ended = [];
      turns = zero_share;
      some = omega arith;
      adds = subst (Alike (rows_of E)) (sym (append-nil (rows_of E))) (alike_refl (rows_of E) u);
      unlimited = tt;
      left = λ k f n g s o i. arms_like b all (as_table es) f k (record { next = i.next; ended = i.ended; turns = zero_more f.turns k.turns i.turns; fraction = i.fraction }) o;
    }

pub arms_as : (b : ℕ) (all rest rest' : ArmList) (es : Entries) (E : Ended) (out : Entries) (F : Ended) → rest ≡ rest' → ArmsFrom b all rest es E out F → ArmsFrom b all rest' es E out F
arms_as b all rest rest' es E out F p s = subst (λ rest. ArmsFrom b all rest es E out F) p s

pub arm_turn : (b p : ℕ) (all rest : ArmList) (a : Statements) (part : Fraction) (es out side left out' : Entries) (E F G : Ended) → 0 < b → BlockIsWeighed a → IsEqual part (class_weight b None 1) →
    ArmsFrom b all (arm p a rest) es E out F → WeighedBy part p es side → SettlesFrom (BlockSettles Alike Alike a) side F left G → ((E : Ended) → StepsTo all_kept none_stopped out left E out' E) → ArmsFrom b all rest es E out' G
arm_turn b p all rest a part es out side left out' E F G some wa e so_far d x m h u =
    let s = so_far h u in
    let w = side_alike b p part es side some e d h in
    let q = x w.above s.adds.first in
    let g = merged_alike out left out' G m s.above q.above q.adds.first in
    let n = as_table left in
    let more = alike_chain (rows_of E) s.ended q.ended s.adds q.adds in
    let l : Outflow = record { next = n; ended = q.ended; turns = q.turns } in
    record {
      above = g.above;
      ended = s.ended ++ q.ended;
      turns = plus s.turns q.turns;
      some = product_some s.turns.1 q.turns.1 s.some q.some;
      adds = more;
      unlimited = unlimited_append s.ended q.ended s.unlimited q.unlimited;
      left = λ k f fn fe fs o i.
          let k' : Outflow = record { next = n ++ k.next; ended = q.ended ++ k.ended; turns = plus q.turns k.turns } in
          let nf = append_fractions n k.next (above_fractions left q.above) fn in
          let ef = append_fractions q.ended k.ended (behind_fractions (rows_of F) q.ended q.adds.second) fe in
          let tf = product_some q.turns.1 k.turns.1 q.some fs in
          s.left k' f nf ef tf
          (l, k, block_from a wa (as_table side) (scaled (class_weight b None p) (as_table es)) l w.alike q.settles, o, record { next = alike_refl _ nf; ended = alike_refl _ ef; turns = refl; fraction = tf })
          (record {
            next = subst (Alike f.next) (append_assoc (as_table out) n k.next) (alike_trans f.next (as_table out' ++ k.next) ((as_table out ++ n) ++ k.next) i.next (alike_append g.alike (alike_refl k.next fn)));
            ended = subst (Alike f.ended) (append_assoc s.ended q.ended k.ended) i.ended;
            turns = three f.turns s.turns q.turns k.turns i.turns;
            fraction = i.fraction;
          });
    }

pub arms_end : (b : ℕ) (all : ArmList) (es : Entries) (E : Ended) (out : Entries) (F : Ended) → ArmsFrom b all no_arm es E out F → SettlesFrom (ArmsSettle Alike Alike b all) es E out F
arms_end b all es E out F so_far h u =
    let s = so_far h u in
    let fe = behind_fractions (rows_of E) s.ended s.adds.second in
    let none : Outflow = record { next = []; ended = []; turns = zero_share } in
    let f : Outflow = record { next = as_table out; ended = s.ended; turns = s.turns } in
    record {
      above = s.above;
      ended = s.ended;
      turns = s.turns;
      some = s.some;
      settles = s.left none f tt tt (omega arith) (record { next = alike_refl [] tt; ended = alike_refl [] tt; turns = refl; fraction = omega arith })
          (record {
            next = subst (Alike (as_table out)) (sym (append-nil (as_table out))) (alike_refl (as_table out) (above_fractions out s.above));
            ended = subst (Alike s.ended) (sym (append-nil s.ended)) (alike_refl s.ended fe);
            turns = more_zero s.turns;
            fraction = s.some;
          });
      adds = s.adds;
      unlimited = s.unlimited;
    }
