-- What the entries of a weighted list count, each by its weight: an integral of a function over the list.
use Rattle.std.proofs.Common.{◌≡◌, ℕ, zero, suc, ◌<◌, Bool, true, false, not, cond, [], ◌∷◌, ◌++◌, map, Ok, Err, refl, arith}
use Rattle.gcl_core.specs.meaning.Value.{State, Value, is_zero}
use Rattle.gcl_core.specs.meaning.Blocks.{End, on, failed, fault, limit, by_value, by_truth}
use Rattle.gcl_core.specs.weighing.Fractions.{Fraction, one, times}
use Rattle.gcl_core.specs.weighing.WeightedEnds.{Weighted, sure, scaled, taken_on}
use Rattle.table_flow.specs.Tables.{Table, holds, fails, only, faults}
use Rattle.unlimited_law.proofs.Numbers.{Rational, ◌⊕◌, ◌⊗◌, ◌⊑◌, ◌≃◌, nought, below_refl, same_refl, same_sym, same_trans, add_below, add_same, times_below, times_same, factor_same, times_assoc, times_turned, times_sum, times_nought, nought_times, unit_times, nought_add, add_nought, add_assoc, add_turned}
use Rattle.unlimited_law.proofs.OneScale.{eq_from, at_sum, Each, none, next, together}
use Rattle.unlimited_law.proofs.FractionNumbers.{of, of_times, of_zero, of_one}

abbrev pub integral : {A : Type 0} → (A → Rational) → Weighted A → Rational
integral F [] = nought
integral F (e ∷ m) = of e.0 ⊗ F e.1 ⊕ integral F m

-- ---- sums
pub regroup4 : (a b c d : Rational) → a ⊕ b ⊕ (c ⊕ d) ≃ a ⊕ c ⊕ (b ⊕ d)
regroup4 a b c d = by (together (a ∷ b ∷ c ∷ d ∷ [])).some (together (a ∷ b ∷ c ∷ d ∷ [])).each
  where
    by : {N : ℕ} → 0 < N → Each N (a ∷ b ∷ c ∷ d ∷ []) → a ⊕ b ⊕ (c ⊕ d) ≃ a ⊕ c ⊕ (b ⊕ d)
    by n (next av at (next bv bt (next cv ct (next dv dt none)))) =
        eq_from n (at_sum (at_sum at bt) (at_sum ct dt)) (at_sum (at_sum at ct) (at_sum bt dt)) (omega arith)

module _ {A : Type 0} where
  pub integral_append : (F : A → Rational) (m n : Weighted A) → integral F (m ++ n) ≃ integral F m ⊕ integral F n
  integral_append F [] n = same_sym (nought_add (integral F n))
  integral_append F (e ∷ m) n =
      same_trans (add_same (same_refl (of e.0 ⊗ F e.1)) (integral_append F m n)) (same_sym (add_assoc (of e.0 ⊗ F e.1) (integral F m) (integral F n)))

  pub integral_below : (F G : A → Rational) (m : Weighted A) → ((a : A) → F a ⊑ G a) → integral F m ⊑ integral G m
  integral_below F G [] h = below_refl nought
  integral_below F G (e ∷ m) h = add_below (times_below (of e.0) (h e.1)) (integral_below F G m h)

  pub integral_same : (F G : A → Rational) (m : Weighted A) → ((a : A) → F a ≃ G a) → integral F m ≃ integral G m
  integral_same F G [] h = same_refl nought
  integral_same F G (e ∷ m) h = add_same (times_same (of e.0) (h e.1)) (integral_same F G m h)

  pub integral_sum : (F G : A → Rational) (m : Weighted A) → integral (λ a. F a ⊕ G a) m ≃ integral F m ⊕ integral G m
  integral_sum F G [] = same_sym (nought_add nought)
  integral_sum F G (e ∷ m) =
      same_trans (add_same (times_sum (of e.0) (F e.1) (G e.1)) (integral_sum F G m)) (regroup4 (of e.0 ⊗ F e.1) (of e.0 ⊗ G e.1) (integral F m) (integral G m))

  pub integral_nought : (m : Weighted A) → integral (λ a. nought) m ≃ nought
  integral_nought [] = same_refl nought
  integral_nought (e ∷ m) = same_trans (add_same (times_nought (of e.0)) (integral_nought m)) (nought_add nought)

  -- by a number
  pub integral_times : (w : Rational) (F : A → Rational) (m : Weighted A) → integral (λ a. w ⊗ F a) m ≃ w ⊗ integral F m
  integral_times w F [] = same_sym (times_nought w)
  integral_times w F (e ∷ m) =
      same_trans (add_same (turned (of e.0) w (F e.1)) (integral_times w F m)) (same_sym (times_sum w (of e.0 ⊗ F e.1) (integral F m)))
    where
      turned : (a b c : Rational) → a ⊗ (b ⊗ c) ≃ b ⊗ (a ⊗ c)
      turned a b c = same_trans (same_sym (times_assoc a b c)) (same_trans (factor_same c (times_turned a b)) (times_assoc b a c))

  integral_mapped : (w : Fraction) (F : A → Rational) (m : Weighted A) → integral F (map (λ e. (times w e.0, e.1)) m) ≃ of w ⊗ integral F m
  integral_mapped w F [] = same_sym (times_nought (of w))
  integral_mapped w F (e ∷ m) =
      same_trans (add_same (same_trans (factor_same (F e.1) (of_times w e.0)) (times_assoc (of w) (of e.0) (F e.1))) (integral_mapped w F m))
      (same_sym (times_sum (of w) (of e.0 ⊗ F e.1) (integral F m)))

  pub integral_scaled : (w : Fraction) (F : A → Rational) (m : Weighted A) → integral F (scaled w m) ≃ of w ⊗ integral F m
  integral_scaled (zero, d) F m = same_sym (same_trans (factor_same (integral F m) (of_zero d)) (nought_times (integral F m)))
  integral_scaled (suc n, d) F m = integral_mapped (suc n, d) F m

  pub integral_sure : (F : A → Rational) (a : A) → integral F (sure a) ≃ F a
  integral_sure F a = same_trans (add_nought (of one ⊗ F a)) (same_trans (factor_same (F a) of_one) (unit_times (F a)))

pub integral_taken : {A B : Type 0} (F : B → Rational) (m : Weighted A) (k : A → Weighted B) → integral F (taken_on m k) ≃ integral (λ a. integral F (k a)) m
integral_taken F [] k = same_refl nought
integral_taken F (e ∷ m) k =
    same_trans (integral_append F (scaled e.0 (k e.1)) (taken_on m k)) (add_same (integral_scaled e.0 F (k e.1)) (integral_taken F m k))

-- ---- ends
-- what goes on counts nothing
abbrev pub stop : (End → Rational) → End → Rational
stop H (on s) = nought
stop H failed = H failed
stop H (fault f) = H (fault f)
stop H (limit l) = H (limit l)

-- a part goes behind the first
pub behind : {x : Rational} (y z a : Rational) → x ≃ y ⊕ z → a ⊕ x ≃ y ⊕ (a ⊕ z)
behind {x} y z a e =
    same_trans (add_same (same_refl a) e) (same_trans (same_sym (add_assoc a y z)) (same_trans (add_same (add_turned a y) (same_refl z)) (add_assoc y a z)))

-- ---- a guard's parts
-- what a guard gives a state: by a fault, where it holds, where it fails
abbrev pub guarded : (State → Value) → (End → Rational) → (A C : State → Rational) → State → Rational
guarded v H A C s = by_value (v s) (λ f. H (fault f)) (λ z. by_truth z (A s) (C s))

second_of : {x : Rational} (f h c w : Rational) → x ≃ f ⊕ (h ⊕ c) → w ⊕ x ≃ f ⊕ (w ⊕ h ⊕ c)
second_of f h c w e = same_trans (behind f (h ⊕ c) w e) (add_same (same_refl f) (same_sym (add_assoc w h c)))

third_of : {x : Rational} (f h c w : Rational) → x ≃ f ⊕ (h ⊕ c) → w ⊕ x ≃ f ⊕ (h ⊕ (w ⊕ c))
third_of f h c w e = same_trans (behind f (h ⊕ c) w e) (add_same (same_refl f) (behind h c w (same_refl (h ⊕ c))))

abbrev GuardParts : (v : State → Value) (H : End → Rational) (A C : State → Rational) (I : Table) → Type 0
GuardParts v H A C I = integral (guarded v H A C) I ≃ integral (stop H) (faults v I) ⊕ (integral A (only (holds v) I) ⊕ integral C (only (fails v) I))

pub integral_guard : (v : State → Value) (H : End → Rational) (A C : State → Rational) (I : Table) →
    integral (guarded v H A C) I ≃ integral (stop H) (faults v I) ⊕ (integral A (only (holds v) I) ⊕ integral C (only (fails v) I))
integral_guard v H A C [] = same_sym (same_trans (nought_add (nought ⊕ nought)) (nought_add nought))
integral_guard v H A C (e ∷ I) = at_head (v e.1) refl (integral_guard v H A C I)
  where
    by_zero : (b : Bool) → GuardParts v H A C I →
        of e.0 ⊗ cond b (C e.1) (A e.1) ⊕ integral (guarded v H A C) I
        ≃ integral (stop H) (faults v I) ⊕ (integral A (cond (not b) (e ∷ only (holds v) I) (only (holds v) I)) ⊕ integral C (cond b (e ∷ only (fails v) I) (only (fails v) I)))
    by_zero true i = third_of _ _ _ (of e.0 ⊗ C e.1) i
    by_zero false i = second_of _ _ _ (of e.0 ⊗ A e.1) i

    at_head : (o : Value) → v e.1 ≡ o → GuardParts v H A C I → GuardParts v H A C (e ∷ I)
    at_head (Err f) p i = rw p (same_trans (add_same (same_refl (of e.0 ⊗ H (fault f))) i) (same_sym (add_assoc (of e.0 ⊗ H (fault f)) (integral (stop H) (faults v I)) (integral A (only (holds v) I) ⊕ integral C (only (fails v) I)))))
    at_head (Ok z) p i = rw p (by_zero (is_zero z) i)
