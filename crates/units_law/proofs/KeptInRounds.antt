-- What some rounds give is no less than what one of them does, and what fails in each does not depend on it.
use Rattle.std.proofs.Common.{◌≡◌, ℕ, ◌+◌, ◌*◌, ◌≤◌, ◌<◌, Bool, true, false, cond, List, [], ◌∷◌, refl, ap, subst, sym, arith}
use Rattle.std.specs.Prelude.{◌==◌}
use Rattle.std.specs.Int.Digits.{digits_of, number_from_digits_after}
use Rattle.std.proofs.Math.Nat.{le_trans}
use Rattle.std.proofs.lemmas.Bool.Decides.{nat_tests}
use Rattle.std.proofs.lemmas.Int.Digits.{number_digits_of}
use Rattle.numbers.specs.Units.{shared}
use Rattle.units_law.specs.SomeRounds.{InRounds, no_round, followed, with_digit, with_digits, in_rounds}

module _ (f : ℕ) where
  digit_fails : (s t d : ℕ) (a b : InRounds) → a.0 ≡ b.0 → (with_digit (f, s) a d).0 ≡ (with_digit (f, t) b d).0
  digit_fails s t d a b e = by (d == 0)
    where
      by : (c : Bool) → (cond c (followed a a) (followed (f, s) (followed a a))).0 ≡ (cond c (followed b b) (followed (f, t) (followed b b))).0
      by true = ap (λ x. shared x x) e
      by false = ap (λ x. shared f (shared x x)) e

  digits_fail : (s t : ℕ) (ds : List ℕ) (a b : InRounds) → a.0 ≡ b.0 → (with_digits (f, s) a ds).0 ≡ (with_digits (f, t) b ds).0
  digits_fail s t [] a b e = e
  digits_fail s t (d ∷ ds) a b e = digits_fail s t ds (with_digit (f, s) a d) (with_digit (f, t) b d) (digit_fails s t d a b e)

  pub same_fails : (s t R : ℕ) → (in_rounds (f, s) R).0 ≡ (in_rounds (f, t) R).0
  same_fails s t R = digits_fail s t (digits_of 2 R) no_round no_round refl

  module _ (s : ℕ) where
    digit_kept : (n d : ℕ) (a : InRounds) → (0 < n → s ≤ a.1) → 0 < n * 2 + d → s ≤ (with_digit (f, s) a d).1
    digit_kept n d a h l = by (d == 0) refl
      where
        by : (c : Bool) → (d == 0) ≡ c → s ≤ (cond c (followed a a) (followed (f, s) (followed a a))).1
        by true e = let none : d ≡ 0 = grind (arith, nat_tests) in let x = h (omega (arith, none, l)) in le_trans x (let y : a.1 ≤ a.1 + shared a.0 a.1 = omega arith in y)
        by false e = let y : s ≤ s + shared f (a.1 + shared a.0 a.1) = omega arith in y

    digits_kept : (n : ℕ) (a : InRounds) (ds : List ℕ) → (0 < n → s ≤ a.1) → 0 < number_from_digits_after 2 n ds → s ≤ (with_digits (f, s) a ds).1
    digits_kept n a [] h l = h l
    digits_kept n a (d ∷ ds) h l = digits_kept (n * 2 + d) (with_digit (f, s) a d) ds (λ k. digit_kept n d a h k) l

    pub given_kept : (R : ℕ) → 0 < R → s ≤ (in_rounds (f, s) R).1
    given_kept R some = digits_kept 0 no_round (digits_of 2 R) (λ k. absurd (omega arith)) (let e = number_digits_of 2 R (omega arith) in subst (λ n. 0 < n) (sym e) some)
