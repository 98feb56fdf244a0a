-- The flow of a statement of which no other is a part, from a table that is two others together.
use Rattle.std.proofs.Common.{[], ◌∷◌}
use Rattle.gcl_core.specs.meaning.Value.{State}
use Rattle.gcl_core.specs.meaning.Blocks.{End, on, failed, fault, limit}
use Rattle.gcl_core.specs.weighing.Fractions.{Fraction}
use Rattle.gcl_core.specs.weighing.WeightedEnds.{Weighted}
use Rattle.table_flow.specs.Tables.{Table, Flow}
use Rattle.table_flow.proofs.Linear.{NoOn}
use Rattle.unlimited_law.specs.Alike.{AreFractions}
use Rattle.unlimited_law.proofs.Numbers.{Rational, ◌⊕◌, ◌⊗◌, ◌≃◌, nought, same_refl, same_sym, same_trans, add_same, times_same, nought_add, add_nought}
use Rattle.unlimited_law.proofs.FractionNumbers.{of}
use Rattle.unlimited_law.proofs.Integrals.{integral, integral_same, integral_nought, stop}
use Rattle.unlimited_law.proofs.FlowIntegrals.{counted}
use Rattle.linear_settling.proofs.Mixtures.{Mixes}

-- ---- what goes on alone, and what ended alone
abbrev going : (State → Rational) → End → Rational
going F (on s) = F s
going F failed = nought
going F (fault f) = nought
going F (limit l) = nought

stop_going : (F : State → Rational) (e : End) → stop (going F) e ≃ nought
stop_going F (on s) = same_refl nought
stop_going F failed = same_refl nought
stop_going F (fault f) = same_refl nought
stop_going F (limit l) = same_refl nought

counted_next : (F : State → Rational) (next : Table) (ended : Weighted End) → counted (going F) next ended ≃ integral F next
counted_next F next ended =
    same_trans (add_same (same_refl (integral F next)) (same_trans (integral_same (stop (going F)) (λ e. nought) ended (stop_going F)) (integral_nought ended))) (add_nought (integral F next))

stop_ended : (F : End → Rational) (m : Weighted End) → NoOn m → integral (stop (stop F)) m ≃ integral F m
stop_ended F [] h = same_refl nought
stop_ended F ((w, on s) ∷ m) h = absurd h.0
stop_ended F ((w, failed) ∷ m) h = add_same (same_refl (of w ⊗ F failed)) (stop_ended F m h.1)
stop_ended F ((w, fault f) ∷ m) h = add_same (same_refl (of w ⊗ F (fault f))) (stop_ended F m h.1)
stop_ended F ((w, limit l) ∷ m) h = add_same (same_refl (of w ⊗ F (limit l))) (stop_ended F m h.1)

counted_ended : (F : End → Rational) (next : Table) (ended : Weighted End) → NoOn ended → counted (stop F) next ended ≃ integral F ended
counted_ended F next ended h = same_trans (add_same (integral_nought next) (stop_ended F ended h)) (nought_add (integral F ended))

-- where it counts what each entry counts by itself
module _ (w : Fraction) {I J K : Table} (h : Mixes w I J K) (step : State → Weighted End) (flow : Table → Flow)
    (same : (H : End → Rational) (M : Table) → integral (λ s. integral H (step s)) M ≃ counted H (flow M).next (flow M).ended) where
  flow_mixes : (H : End → Rational) → counted H (flow K).next (flow K).ended ≃ of w ⊗ counted H (flow I).next (flow I).ended ⊕ counted H (flow J).next (flow J).ended
  flow_mixes H = same_trans (same_sym (same H K)) (same_trans (h.each (λ s. integral H (step s))) (add_same (times_same (of w) (same H I)) (same H J)))

  pub next_mixes : AreFractions (flow I).next → AreFractions (flow J).next → AreFractions (flow K).next → Mixes w (flow I).next (flow J).next (flow K).next
  next_mixes f g k = record {
    first = f;
    second = g;
    fractions = k;
    each = λ F.
        same_trans (same_sym (counted_next F (flow K).next (flow K).ended))
        (same_trans (flow_mixes (going F)) (add_same (times_same (of w) (counted_next F (flow I).next (flow I).ended)) (counted_next F (flow J).next (flow J).ended)));
  }

  pub ended_mixes : NoOn (flow I).ended → NoOn (flow J).ended → NoOn (flow K).ended → AreFractions (flow I).ended → AreFractions (flow J).ended → AreFractions (flow K).ended → Mixes w (flow I).ended (flow J).ended (flow K).ended
  ended_mixes n o p f g k = record {
    first = f;
    second = g;
    fractions = k;
    each = λ F.
        same_trans (same_sym (counted_ended F (flow K).next (flow K).ended p))
        (same_trans (flow_mixes (stop F)) (add_same (times_same (of w) (counted_ended F (flow I).next (flow I).ended n)) (counted_ended F (flow J).next (flow J).ended o)));
  }
