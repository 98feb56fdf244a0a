-- What the flow of a statement of which no other is a part counts: what each entry counts by itself.
use Rattle.std.proofs.Common.{ℕ, zero, suc, ℤ, pos, negsuc, Bool, true, false, cond, [], ◌∷◌, ◌++◌, map, Ok, Err, None, slice_set, subst}
use Rattle.gcl_core.specs.declared.answers.Fault.TheVariants.{BadBound}
use Rattle.gcl_core.specs.declared.answers.Limit.TheVariants.{Attempts}
use Rattle.gcl_core.specs.meaning.Value.{State, Value, is_zero}
use Rattle.gcl_core.specs.meaning.Blocks.{End, on, failed, fault, limit, by_value, by_truth, by_bound}
use Rattle.gcl_core.specs.weighing.Fractions.{Fraction}
use Rattle.gcl_core.specs.weighing.WeightedEnds.{Weighted, sure, scaled, class_weight, no_class_weight}
use Rattle.table_flow.specs.Tables.{Table, holds, fails, only, faults, all_end, fractions_kind, uniform_go}
use Rattle.table_flow.proofs.FlowWords.{set_to, set_below, set_drawn, not_drawn}
use Rattle.table_flow.proofs.DrawnLists.{all_on, draw_list}
use Rattle.table_flow.proofs.WeightedParts.{value_weighted, uniform_weighted}
use Rattle.table_flow.proofs.UniformLists.{by_lists}
use Rattle.unlimited_law.proofs.Numbers.{Rational, ◌⊕◌, ◌⊗◌, ◌≃◌, nought, same_refl, same_sym, same_trans, add_same, times_same, nought_add, add_nought, add_assoc}
use Rattle.unlimited_law.proofs.FractionNumbers.{of}
use Rattle.unlimited_law.proofs.Integrals.{integral, regroup4, integral_append, integral_same, integral_sum, integral_nought, integral_times, integral_scaled, integral_sure, stop, behind, guarded, integral_guard}

-- what goes on, and what ended
abbrev pub counted : (End → Rational) → Table → Weighted End → Rational
counted H next ended = integral (λ s. H (on s)) next ⊕ integral (stop H) ended

counted_append : (H : End → Rational) (a b : Table) (c d : Weighted End) → counted H (a ++ b) (c ++ d) ≃ counted H a c ⊕ counted H b d
counted_append H a b c d =
    same_trans (add_same (integral_append (λ s. H (on s)) a b) (integral_append (stop H) c d))
    (regroup4 (integral (λ s. H (on s)) a) (integral (λ s. H (on s)) b) (integral (stop H) c) (integral (stop H) d))

pub each_sure : (H : End → Rational) (I : Table) → integral (λ s. integral H (sure (on s))) I ≃ integral (λ s. H (on s)) I
each_sure H I = integral_same (λ s. integral H (sure (on s))) (λ s. H (on s)) I (λ s. integral_sure H (on s))

ended_integral : (F : End → Rational) (x : End) (I : Table) → integral F (all_end x I) ≃ integral (λ s. F x) I
ended_integral F x [] = same_refl nought
ended_integral F x (e ∷ I) = add_same (same_refl (of e.0 ⊗ F x)) (ended_integral F x I)

-- one weight for all of a table
pub weighed : (w : Fraction) (K : State → Rational) (I : Table) → integral (λ s. of w ⊗ K s) I ≃ integral K (scaled w I)
weighed w K I = same_trans (integral_times (of w) K I) (same_sym (integral_scaled w K I))

-- ---- a guard
guard_at : (H : End → Rational) (v : Value) (a c : Weighted End) →
    integral H (value_weighted v (λ z. by_truth z a c)) ≃ by_value v (λ f. H (fault f)) (λ z. by_truth z (integral H a) (integral H c))
guard_at H (Err f) a c = integral_sure H (fault f)
guard_at H (Ok z) a c = by_test (is_zero z)
  where
    by_test : (b : Bool) → integral H (cond b c a) ≃ cond b (integral H c) (integral H a)
    by_test true = same_refl _
    by_test false = same_refl _

-- a guard's parts, over a table
pub guard_parts : (H : End → Rational) (v : State → Value) (a c : State → Weighted End) (I : Table) →
    integral (λ s. integral H (value_weighted (v s) (λ z. by_truth z (a s) (c s)))) I
    ≃ integral (stop H) (faults v I) ⊕ (integral (λ s. integral H (a s)) (only (holds v) I) ⊕ integral (λ s. integral H (c s)) (only (fails v) I))
guard_parts H v a c I =
    same_trans (integral_same (λ s. integral H (value_weighted (v s) (λ z. by_truth z (a s) (c s)))) (guarded v H (λ s. integral H (a s)) (λ s. integral H (c s))) I (λ s. guard_at H (v s) (a s) (c s)))
    (integral_guard v H (λ s. integral H (a s)) (λ s. integral H (c s)) I)

-- ---- each statement
pub skip_counted : (H : End → Rational) (I : Table) → integral (λ s. integral H (sure (on s))) I ≃ counted H I []
skip_counted H I = same_trans (each_sure H I) (same_sym (add_nought (integral (λ s. H (on s)) I)))

pub set_counted : (H : End → Rational) (x : ℕ) (v : State → Value) (I : Table) →
    integral (λ s. integral H (value_weighted (v s) (λ z. sure (on (slice_set s x z))))) I ≃ counted H (set_to x v I) (faults v I)
set_counted H x v [] = same_sym (nought_add nought)
set_counted H x v (e ∷ I) = at_head (v e.1) (set_counted H x v I)
  where
    Rest : Rational
    Rest = integral (λ s. integral H (value_weighted (v s) (λ z. sure (on (slice_set s x z))))) I

    at_head : (o : Value) → Rest ≃ counted H (set_to x v I) (faults v I) →
        of e.0 ⊗ integral H (value_weighted o (λ z. sure (on (slice_set e.1 x z)))) ⊕ Rest
        ≃ counted H (by_value o (λ f. set_to x v I) (λ z. (e.0, slice_set e.1 x z) ∷ set_to x v I)) (by_value o (λ f. (e.0, fault f) ∷ faults v I) (λ z. faults v I))
    at_head (Err f) i = same_trans (add_same (times_same (of e.0) (integral_sure H (fault f))) (same_refl Rest)) (behind _ _ _ i)
    at_head (Ok z) i = same_trans (add_same (times_same (of e.0) (integral_sure H (on (slice_set e.1 x z)))) i) (same_sym (add_assoc _ _ _))

pub seen_counted : (H : End → Rational) (v : State → Value) (I : Table) →
    integral (λ s. integral H (value_weighted (v s) (λ z. by_truth z (sure (on s)) (sure failed)))) I ≃ counted H (only (holds v) I) (faults v I ++ all_end failed (only (fails v) I))
seen_counted H v I =
    let J = only (fails v) I in
    let fail = same_trans (integral_same (λ s. integral H (sure failed)) (λ s. H failed) J (λ s. integral_sure H failed)) (same_sym (ended_integral (stop H) failed J)) in
    same_trans (guard_parts H v (λ s. sure (on s)) (λ s. sure failed) I)
    (same_trans (behind _ _ _ (add_same (each_sure H (only (holds v) I)) fail)) (add_same (same_refl _) (same_sym (integral_append (stop H) (faults v I) (all_end failed J)))))

-- ---- a uniform draw
abbrev sum_below : ℕ → (ℕ → Rational) → Rational
sum_below zero F = nought
sum_below (suc m) F = sum_below m F ⊕ F m

moved_integral : (G : State → Rational) (x : ℕ) (z : ℤ) (J : Table) → integral G (map (λ e. (e.0, slice_set e.1 x z)) J) ≃ integral (λ s. G (slice_set s x z)) J
moved_integral G x z [] = same_refl nought
moved_integral G x z (e ∷ J) = add_same (same_refl (of e.0 ⊗ G (slice_set e.1 x z))) (moved_integral G x z J)

below_integral : (G : State → Rational) (x m : ℕ) (J : Table) → integral G (set_below x m J) ≃ integral (λ s. sum_below m (λ i. G (slice_set s x (pos i)))) J
below_integral G x zero J = same_sym (integral_nought J)
below_integral G x (suc m) J =
    same_trans (integral_append G (set_below x m J) (map (λ e. (e.0, slice_set e.1 x (pos m))) J))
    (same_trans (add_same (below_integral G x m J) (moved_integral G x (pos m) J)) (same_sym (integral_sum (λ s. sum_below m (λ i. G (slice_set s x (pos i)))) (λ s. G (slice_set s x (pos m))) J)))

on_integral : (H : End → Rational) (J : Table) → integral H (all_on J) ≃ integral (λ s. H (on s)) J
on_integral H [] = same_refl nought
on_integral H (e ∷ J) = add_same (same_refl (of e.0 ⊗ H (on e.1))) (on_integral H J)

-- a draw of bound m from a state
draw_counted : (H : End → Rational) (x m : ℕ) (s : State) → integral H (uniform_weighted None x (pos (suc m)) s) ≃ of (class_weight (suc m) None 1) ⊗ sum_below (suc m) (λ i. H (on (slice_set s x (pos i))))
draw_counted H x m s =
    let u = class_weight (suc m) None 1 in
    let J = set_below x (suc m) (scaled u (sure s)) in
    let G : State → Rational = λ s. sum_below (suc m) (λ i. H (on (slice_set s x (pos i)))) in
    let drawn : integral H (uniform_weighted None x (pos (suc m)) s) ≃ integral H (all_on J ++ []) = subst (λ l. integral H (uniform_weighted None x (pos (suc m)) s) ≃ integral H l) (draw_list x s (suc m) None) (same_refl _) in
    same_trans drawn
    (same_trans (integral_append H (all_on J) [])
    (same_trans (add_nought (integral H (all_on J)))
    (same_trans (on_integral H J)
    (same_trans (below_integral (λ s. H (on s)) x (suc m) (scaled u (sure s))) (same_trans (integral_scaled u G (sure s)) (times_same (of u) (integral_sure G s)))))))

lists_counted : (H : End → Rational) (x : ℕ) (v : State → Value) (I : Table) →
    integral (λ s. integral H (value_weighted (v s) (λ z. uniform_weighted None x z s))) I ≃ counted H (set_drawn x v None I) (not_drawn v None I)
lists_counted H x v [] = same_sym (nought_add nought)
lists_counted H x v (e ∷ I) =
    same_trans (add_same (same_trans (same_sym (add_nought _)) (by_state (v e.1))) (lists_counted H x v I))
    (same_sym (counted_append H (by_value (v e.1) (λ f. []) goes) (set_drawn x v None I) (by_value (v e.1) (λ f. (e.0, fault f) ∷ []) stops) (not_drawn v None I)))
  where
    goes : ℤ → Table
    goes z = by_bound z [] (λ m. set_below x m (scaled (class_weight m None 1) (e ∷ [])))

    stops : ℤ → Weighted End
    stops z = by_bound z ((e.0, fault BadBound) ∷ []) (λ m. all_end (limit Attempts) (scaled (no_class_weight m None) (e ∷ [])))

    ended : (y : End) → of e.0 ⊗ integral H (sure y) ⊕ nought ≃ nought ⊕ (of e.0 ⊗ H y ⊕ nought)
    ended y = same_trans (add_same (times_same (of e.0) (integral_sure H y)) (same_refl nought)) (same_sym (nought_add _))

    by_sign : (z : ℤ) → integral (λ s. integral H (uniform_weighted None x z s)) (e ∷ []) ≃ counted H (goes z) (stops z)
    by_sign (pos zero) = ended (fault BadBound)
    by_sign (negsuc m) = ended (fault BadBound)
    by_sign (pos (suc m)) =
        let u = class_weight (suc m) None 1 in
        let G : State → Rational = λ s. sum_below (suc m) (λ i. H (on (slice_set s x (pos i)))) in
        same_trans (integral_same (λ s. integral H (uniform_weighted None x (pos (suc m)) s)) (λ s. of u ⊗ G s) (e ∷ []) (draw_counted H x m))
        (same_trans (weighed u G (e ∷ [])) (same_trans (same_sym (below_integral (λ s. H (on s)) x (suc m) (scaled u (e ∷ [])))) (same_sym (add_nought _))))

    by_state : (o : Value) → integral (λ s. integral H (value_weighted o (λ z. uniform_weighted None x z s))) (e ∷ []) ≃ counted H (by_value o (λ f. []) goes) (by_value o (λ f. (e.0, fault f) ∷ []) stops)
    by_state (Ok z) = by_sign z
    by_state (Err f) = ended (fault f)

-- of the flow of a uniform draw
pub drawn_counted : (H : End → Rational) (x : ℕ) (v : State → Value) (I : Table) →
    integral (λ s. integral H (value_weighted (v s) (λ z. uniform_weighted None x z s))) I ≃ counted H (uniform_go fractions_kind None x v I).next (uniform_go fractions_kind None x v I).ended
drawn_counted H x v I = rw (by_lists fractions_kind None x v I) (lists_counted H x v I)
