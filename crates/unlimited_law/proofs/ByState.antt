-- Lists weigh the same where each member has the same weight in both; and where they have the same amounts at a scale.
use Rattle.std.proofs.Common.{◌≡◌, ℕ, ◌*◌, ◌<◌, Bool, true, false, not, cond, [], ◌∷◌, ◌++◌, refl, ap, subst, arith}
use Rattle.std.proofs.Math.Nat.{le_of_mul-le-mul_right}
use Rattle.std.specs.Prelude.{◌&&◌}
use Rattle.numbers.specs.Fraction.{IsEqual}
use Rattle.gcl_core.specs.weighing.Fractions.{Fraction}
use Rattle.gcl_core.specs.weighing.Mass.{sum_of}
use Rattle.gcl_core.specs.weighing.WeightedEnds.{Weighted}
use Rattle.table_flow.specs.Scale.{amount, Wholes}
use Rattle.table_flow.proofs.Linear.{sum_amount}
use Rattle.unlimited_law.specs.Alike.{AreFractions, Alike}
use Rattle.unlimited_law.proofs.Numbers.{◌⊕◌, ◌≃◌, nought, unit, same_refl, same_sym, same_trans, add_same, nought_add, add_nought}
use Rattle.unlimited_law.proofs.FractionNumbers.{of_equal, equal_of}
use Rattle.unlimited_law.proofs.Integrals.{integral, integral_append, integral_same, integral_sum, integral_nought}
use Rattle.unlimited_law.proofs.Covers.{sign, kept, integral_kept, other, covered_same}
use Rattle.unlimited_law.proofs.SameWeights.{sum_some, sum_is, sign_both}

-- ---- at a scale
pub wholes_fractions : {A : Type 0} (N : ℕ) (m : Weighted A) → Wholes N m → AreFractions m
wholes_fractions N [] w = tt
wholes_fractions N (e ∷ m) w = ((let z = w.0.positive in omega arith), wholes_fractions N m w.1)

pub alike_amounts : {A : Type 0} (N : ℕ) (m o : Weighted A) → 0 < N → Wholes N m → Wholes N o → ((G : A → ℕ) → amount N G m ≡ amount N G o) → Alike m o
alike_amounts N m o some w v h = record {
  each = λ event. equal (sum_of event m) (sum_of event o) (amount N (λ x. cond (event x) 1 0) m) (amount N (λ x. cond (event x) 1 0) o) (sum_amount N event m w) (sum_amount N event o v) (h (λ x. cond (event x) 1 0));
  first = wholes_fractions N m w;
  second = wholes_fractions N o v;
}
  where
    equal : (p q : Fraction) (x y : ℕ) → p.1 * x ≡ p.0 * N → q.1 * y ≡ q.0 * N → x ≡ y → IsEqual p q
    equal p q x y a b e =
        let s = ap (λ z. q.1 * z) a in
        let t = ap (λ z. p.1 * z) b in
        let u = ap (λ z. p.1 * q.1 * z) e in
        let up = le_of_mul-le-mul_right {m = p.0 * q.1} {n = q.0 * p.1} {k = N} (omega arith) some in
        let down = le_of_mul-le-mul_right {m = q.0 * p.1} {n = p.0 * q.1} {k = N} (omega arith) some in
        omega arith

-- ---- member by member
module _ {A : Type 0} (same : A → A → Bool) (sound : (a b : A) → same a b ≡ true → a ≡ b) (itself : (a : A) → same a a ≡ true) where
  abbrev SameMembers : Weighted A → Weighted A → Type 0
  SameMembers m o = (a : A) → integral (sign (same a)) m ≃ integral (sign (same a)) o

  -- without one member
  without : (a : A) (m o : Weighted A) → SameMembers m o → SameMembers (kept (other same a) m) (kept (other same a) o)
  without a m o h b = same_trans (sign_both (same b) (other same a) m) (same_trans (by (same a b) refl) (same_sym (sign_both (same b) (other same a) o)))
    where
      never : (c : Bool) → cond (c && not c) unit nought ≃ nought
      never true = same_refl nought
      never false = same_refl nought

      none : a ≡ b → (m : Weighted A) → integral (sign (λ x. same b x && other same a x)) m ≃ nought
      none e m = same_trans (integral_same (sign (λ x. same b x && other same a x)) (λ x. nought) m (λ x. subst (λ c. cond (same c x && not (same a x)) unit nought ≃ nought) e (never (same a x)))) (integral_nought m)

      all : same a b ≡ false → (m : Weighted A) → integral (sign (λ x. same b x && other same a x)) m ≃ integral (sign (same b)) m
      all e m = integral_same (sign (λ x. same b x && other same a x)) (sign (same b)) m (λ x. at x (same b x) refl)
        where
          at : (x : A) (c : Bool) → same b x ≡ c → cond (c && not (same a x)) unit nought ≃ cond c unit nought
          at x true k = subst (λ y. cond (not (same a y)) unit nought ≃ unit) (sound b x k) (rw e (same_refl unit))
          at x false k = same_refl nought

      by : (c : Bool) → same a b ≡ c → integral (sign (λ x. same b x && other same a x)) m ≃ integral (sign (λ x. same b x && other same a x)) o
      by true e = same_trans (none (sound a b e) m) (same_sym (none (sound a b e) o))
      by false e = same_trans (all e m) (same_trans (h b) (same_sym (all e o)))

  by_members : (t : A → Bool) (m o : Weighted A) → SameMembers m o → integral (sign t) m ≃ integral (sign t) o
  by_members t = covered_same same itself (sign t) (λ a x e. subst (λ y. sign t y ≃ sign t a) (sound a x e) (same_refl (sign t a))) SameMembers without (λ a m o h. h a)

  -- each member has the same weight in both
  pub alike_members : (m o : Weighted A) → AreFractions m → AreFractions o → ((a : A) → IsEqual (sum_of (same a) m) (sum_of (same a) o)) → Alike m o
  alike_members m o f g h = record {
    each = λ event.
        equal_of (sum_of event m) (sum_of event o) (sum_some event m f) (sum_some event o g)
        (same_trans (sum_is event m f)
        (same_trans
        (by_members event m o
        (λ a. same_trans (same_sym (sum_is (same a) m f)) (same_trans (of_equal (sum_of (same a) m) (sum_of (same a) o) (sum_some (same a) m f) (sum_some (same a) o g) (h a)) (sum_is (same a) o g))))
        (same_sym (sum_is event o g))));
    first = f;
    second = g;
  }

-- ---- a list in two parts
pub kept_fractions : {A : Type 0} (test : A → Bool) (m : Weighted A) → AreFractions m → AreFractions (kept test m)
kept_fractions test [] h = tt
kept_fractions test (e ∷ m) h = by (test e.1) (kept_fractions test m h.1)
  where
    by : (b : Bool) → AreFractions (kept test m) → AreFractions (cond b (e ∷ kept test m) (kept test m))
    by true i = (h.0, i)
    by false i = i

pub append_fractions : {A : Type 0} (m o : Weighted A) → AreFractions m → AreFractions o → AreFractions (m ++ o)
append_fractions [] o h k = k
append_fractions (e ∷ m) o h k = (h.0, append_fractions m o h.1 k)

-- what passes a test, and what does not
pub alike_parts : {A : Type 0} (test : A → Bool) (m : Weighted A) → AreFractions m → Alike (kept test m ++ kept (λ x. not (test x)) m) m
alike_parts {A} test m h =
    let first = append_fractions (kept test m) (kept (λ x. not (test x)) m) (kept_fractions test m h) (kept_fractions (λ x. not (test x)) m h) in
    record {
      each = λ event. equal_of (sum_of event (kept test m ++ kept (λ x. not (test x)) m)) (sum_of event m) (sum_some event _ first) (sum_some event m h)
          (same_trans (sum_is event _ first) (same_trans (together_again event) (same_sym (sum_is event m h))));
      first = first;
      second = h;
    }
  where
    either : (b c : Bool) → cond b (cond c unit nought) nought ⊕ cond (not b) (cond c unit nought) nought ≃ cond c unit nought
    either true c = add_nought (cond c unit nought)
    either false c = nought_add (cond c unit nought)

    together_again : (event : A → Bool) → integral (sign event) (kept test m ++ kept (λ x. not (test x)) m) ≃ integral (sign event) m
    together_again event =
        same_trans (integral_append (sign event) (kept test m) (kept (λ x. not (test x)) m))
        (same_trans (add_same (integral_kept (sign event) test m) (integral_kept (sign event) (λ x. not (test x)) m))
        (same_trans (same_sym (integral_sum (λ x. cond (test x) (sign event x) nought) (λ x. cond (not (test x)) (sign event x) nought) m))
        (integral_same (λ x. cond (test x) (sign event x) nought ⊕ cond (not (test x)) (sign event x) nought) (sign event) m (λ x. either (test x) (event x)))))
