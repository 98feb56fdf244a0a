-- What weighs the same still does where it is put together, scaled, or led on.
use Rattle.std.proofs.Common.{ℕ, zero, suc, ◌*◌, ◌≤◌, ◌<◌, Bool, cond, [], ◌∷◌, ◌++◌, Ok, Err, refl, sym, subst, append_assoc, arith}
use Rattle.gcl_core.specs.meaning.Value.{State, Value}
use Rattle.gcl_core.specs.meaning.Blocks.{End, on, failed, fault, limit, by_value}
use Rattle.gcl_core.specs.weighing.Fractions.{Fraction}
use Rattle.gcl_core.specs.weighing.Mass.{sum_of}
use Rattle.gcl_core.specs.weighing.WeightedEnds.{Weighted, scaled}
use Rattle.table_flow.specs.Tables.{Table, Flow, only, faults}
use Rattle.table_flow.proofs.Linear.{NoOn}
use Rattle.unlimited_law.specs.Alike.{AreFractions, Alike}
use Rattle.unlimited_law.proofs.Numbers.{Rational, ◌⊕◌, ◌⊗◌, ◌≃◌, nought, same_refl, same_sym, same_trans, add_same, times_same, times_nought, nought_add, add_nought}
use Rattle.unlimited_law.proofs.FractionNumbers.{of, equal_of}
use Rattle.weighing_law.proofs.Shares.{product_pos}
use Rattle.unlimited_law.proofs.Integrals.{integral, integral_append, integral_same, integral_nought, integral_scaled, stop}
use Rattle.unlimited_law.proofs.FlowIntegrals.{counted}
use Rattle.unlimited_law.proofs.BlockLimits.{behind_fractions}
use Rattle.unlimited_law.proofs.ByState.{append_fractions, kept_fractions}
use Rattle.unlimited_law.proofs.Covers.{sign, integral_kept}
use Rattle.unlimited_law.proofs.SameWeights.{sum_some, sum_is, alike_integral}

pub alike_of : {A : Type 0} (m o : Weighted A) → AreFractions m → AreFractions o → ((F : A → Rational) → integral F m ≃ integral F o) → Alike m o
alike_of m o f g h = record {
  each = λ event. equal_of (sum_of event m) (sum_of event o) (sum_some event m f) (sum_some event o g) (same_trans (sum_is event m f) (same_trans (h (sign event)) (same_sym (sum_is event o g))));
  first = f;
  second = g;
}

pub alike_refl : {A : Type 0} (m : Weighted A) → AreFractions m → Alike m m
alike_refl m f = record { each = λ event. refl; first = f; second = f }

pub alike_sym : {A : Type 0} {m o : Weighted A} → Alike m o → Alike o m
alike_sym {A} {m} {o} h = record { each = λ event. sym (h.each event); first = h.second; second = h.first }

pub alike_append : {A : Type 0} {m m' o o' : Weighted A} → Alike m m' → Alike o o' → Alike (m ++ o) (m' ++ o')
alike_append {A} {m} {m'} {o} {o'} h k =
    alike_of (m ++ o) (m' ++ o') (append_fractions m o h.first k.first) (append_fractions m' o' h.second k.second)
    (λ F. same_trans (integral_append F m o) (same_trans (add_same (alike_integral m m' h F) (alike_integral o o' k F)) (same_sym (integral_append F m' o'))))

-- what is added, one after the other
pub alike_chain : {A : Type 0} {p m : Weighted A} (o a b : Weighted A) → Alike m (o ++ a) → Alike p (m ++ b) → Alike p (o ++ (a ++ b))
alike_chain {A} {p} {m} o a b h k =
    let l = alike_append h (alike_refl b (behind_fractions m b k.second)) in
    subst (Alike p) (append_assoc o a b) (alike_of p ((o ++ a) ++ b) k.first l.second (λ F. same_trans (alike_integral p (m ++ b) k F) (alike_integral (m ++ b) ((o ++ a) ++ b) l F)))

pub product_some : (a b : ℕ) → 1 ≤ a → 1 ≤ b → 1 ≤ a * b
product_some a b h k = let p : 0 < a = omega arith in let q : 0 < b = omega arith in let r = product_pos a b p q in omega arith

pub fractions_scaled : {A : Type 0} (w : Fraction) (m : Weighted A) → 1 ≤ w.1 → AreFractions m → AreFractions (scaled w m)
fractions_scaled (zero, d) m h k = tt
fractions_scaled (suc n, d) [] h k = tt
fractions_scaled (suc n, d) (e ∷ m) h k = (product_some d e.0.1 h k.0, fractions_scaled (suc n, d) m h k.1)

pub alike_scaled : {A : Type 0} (w : Fraction) {m o : Weighted A} → 1 ≤ w.1 → Alike m o → Alike (scaled w m) (scaled w o)
alike_scaled w {m} {o} h k =
    alike_of (scaled w m) (scaled w o) (fractions_scaled w m h k.first) (fractions_scaled w o h k.second)
    (λ F. same_trans (integral_scaled w F m) (same_trans (times_same (of w) (alike_integral m o k F)) (same_sym (integral_scaled w F o))))

-- ---- the flow of a statement
abbrev going : (State → Rational) → End → Rational
going F (on s) = F s
going F failed = nought
going F (fault f) = nought
going F (limit l) = nought

stop_going : (F : State → Rational) (e : End) → stop (going F) e ≃ nought
stop_going F (on s) = same_refl nought
stop_going F failed = same_refl nought
stop_going F (fault f) = same_refl nought
stop_going F (limit l) = same_refl nought

counted_next : (F : State → Rational) (next : Table) (ended : Weighted End) → counted (going F) next ended ≃ integral F next
counted_next F next ended =
    same_trans (add_same (same_refl (integral F next)) (same_trans (integral_same (stop (going F)) (λ e. nought) ended (stop_going F)) (integral_nought ended))) (add_nought (integral F next))

stop_ended : (F : End → Rational) (m : Weighted End) → NoOn m → integral (stop (stop F)) m ≃ integral F m
stop_ended F [] h = same_refl nought
stop_ended F ((w, on s) ∷ m) h = absurd h.0
stop_ended F ((w, failed) ∷ m) h = add_same (same_refl (of w ⊗ F failed)) (stop_ended F m h.1)
stop_ended F ((w, fault f) ∷ m) h = add_same (same_refl (of w ⊗ F (fault f))) (stop_ended F m h.1)
stop_ended F ((w, limit l) ∷ m) h = add_same (same_refl (of w ⊗ F (limit l))) (stop_ended F m h.1)

counted_ended : (F : End → Rational) (next : Table) (ended : Weighted End) → NoOn ended → counted (stop F) next ended ≃ integral F ended
counted_ended F next ended h = same_trans (add_same (integral_nought next) (stop_ended F ended h)) (nought_add (integral F ended))

-- of tables that weigh the same, where it counts what each entry counts by itself
module _ {I K : Table} (h : Alike I K) (step : State → Weighted End) (flow : Table → Flow) (same : (H : End → Rational) (J : Table) → integral (λ s. integral H (step s)) J ≃ counted H (flow J).next (flow J).ended) where
  flow_same : (H : End → Rational) → counted H (flow I).next (flow I).ended ≃ counted H (flow K).next (flow K).ended
  flow_same H = same_trans (same_sym (same H I)) (same_trans (alike_integral I K h (λ s. integral H (step s))) (same H K))

  pub alike_next : AreFractions (flow I).next → AreFractions (flow K).next → Alike (flow I).next (flow K).next
  alike_next f g = alike_of _ _ f g (λ F. same_trans (same_sym (counted_next F (flow I).next (flow I).ended)) (same_trans (flow_same (going F)) (counted_next F (flow K).next (flow K).ended)))

  pub alike_ended : NoOn (flow I).ended → NoOn (flow K).ended → AreFractions (flow I).ended → AreFractions (flow K).ended → Alike (flow I).ended (flow K).ended
  alike_ended n o f g = alike_of _ _ f g (λ F. same_trans (same_sym (counted_ended F (flow I).next (flow I).ended n)) (same_trans (flow_same (stop F)) (counted_ended F (flow K).next (flow K).ended o)))

-- ---- a guard
pub alike_only : (test : State → Bool) {I K : Table} → Alike I K → Alike (only test I) (only test K)
alike_only test {I} {K} h =
    alike_of (only test I) (only test K) (kept_fractions test I h.first) (kept_fractions test K h.second)
    (λ F. same_trans (integral_kept F test I) (same_trans (alike_integral I K h (λ s. cond (test s) (F s) nought)) (same_sym (integral_kept F test K))))

fractions_faults : (v : State → Value) (I : Table) → AreFractions I → AreFractions (faults v I)
fractions_faults v [] h = tt
fractions_faults v (e ∷ I) h = at_head (v e.1) (fractions_faults v I h.1)
  where
    at_head : (o : Value) → AreFractions (faults v I) → AreFractions (by_value o (λ f. (e.0, fault f) ∷ faults v I) (λ z. faults v I))
    at_head (Ok z) i = i
    at_head (Err f) i = (h.0, i)

abbrev faulty : (State → Value) → (End → Rational) → State → Rational
faulty v F s = by_value (v s) (λ f. F (fault f)) (λ z. nought)

integral_faults : (F : End → Rational) (v : State → Value) (I : Table) → integral F (faults v I) ≃ integral (faulty v F) I
integral_faults F v [] = same_refl nought
integral_faults F v (e ∷ I) = at_head (v e.1) (integral_faults F v I)
  where
    at_head : (o : Value) → integral F (faults v I) ≃ integral (faulty v F) I →
        integral F (by_value o (λ f. (e.0, fault f) ∷ faults v I) (λ z. faults v I)) ≃ of e.0 ⊗ by_value o (λ f. F (fault f)) (λ z. nought) ⊕ integral (faulty v F) I
    at_head (Ok z) i = same_trans i (same_sym (same_trans (add_same (times_nought (of e.0)) (same_refl _)) (nought_add _)))
    at_head (Err f) i = add_same (same_refl (of e.0 ⊗ F (fault f))) i

pub alike_faults : (v : State → Value) {I K : Table} → Alike I K → Alike (faults v I) (faults v K)
alike_faults v {I} {K} h =
    alike_of (faults v I) (faults v K) (fractions_faults v I h.first) (fractions_faults v K h.second)
    (λ F. same_trans (integral_faults F v I) (same_trans (alike_integral I K h (faulty v F)) (same_sym (integral_faults F v K))))
