-- What some rounds give to two kinds of outcomes is, but for a unit a round, what they give to both together.
use Rattle.std.proofs.Common.{◌≡◌, ◌⊎◌, inl, inr, ℕ, zero, suc, ◌+◌, ◌-◌, ◌*◌, ◌≤◌, ◌<◌, List, [], ◌∷◌, refl, ap, subst, arith}
use Rattle.std.specs.Int.Digits.{digits_of, number_from_digits_after, AllBelowBase}
use Rattle.std.proofs.lemmas.Bool.{cases_lt}
use Rattle.std.proofs.lemmas.Int.Digits.{number_digits_of, all_below_base_digits_of}
use Rattle.std.proofs.lemmas.Nat.{div-add-mod', mod_below}
use Rattle.std.proofs.Math.Nat.{mul-le-mul_left, mul-le-mul_right}
use Rattle.numbers.specs.Units.{shared}
use Rattle.numbers.specs.declared.units.TheConstants.{ALL}
use Rattle.units_law.specs.SomeRounds.{InRounds, no_round, followed, with_digit, with_digits, in_rounds}

-- a share of a sum, where there are e units more
pub shared_apart : (f x y z e : ℕ) → f ≤ ALL → z ≤ x + y + e → shared f z ≤ shared f x + shared f y + (e + 1)
shared_apart f x y z e most h =
    let a = mul-le-mul_left f h in
    let b = mul-le-mul_right e most in
    let z0 = div-add-mod' (f * z) ALL in
    let x0 = div-add-mod' (f * x) ALL in
    let y0 = div-add-mod' (f * y) ALL in
    let x1 = mod_below (f * x) ALL (omega arith) in
    let y1 = mod_below (f * y) ALL (omega arith) in
    omega arith

pub shared_most : (f g : ℕ) → f ≤ ALL → g ≤ ALL → shared f g ≤ ALL
shared_most f g h k = let a = mul-le-mul_right g h in let d = div-add-mod' (f * g) ALL in omega arith

pub shared_nothing : (f z : ℕ) → z ≡ 0 → shared f z ≡ 0
shared_nothing f z e = let x = ap (λ t. f * t) e in let d = div-add-mod' (f * z) ALL in omega arith

-- after n rounds
record Apart (n : ℕ) (a b c : InRounds) : Type 0 where
  most : c.0 ≤ ALL
  first : a.0 ≡ c.0
  second : b.0 ≡ c.0
  none : n ≡ 0 → c.1 ≡ 0
  some : 0 < n → c.1 + 1 ≤ a.1 + b.1 + n

module _ (f s t : ℕ) (f_most : f ≤ ALL) where
  twice_apart : (n : ℕ) (a b c : InRounds) → Apart n a b c → Apart (n * 2) (followed a a) (followed b b) (followed c c)
  twice_apart n a b c h = record {
    most = shared_most c.0 c.0 h.most h.most;
    first = ap (λ x. shared x x) h.first;
    second = ap (λ x. shared x x) h.second;
    none = λ e. let z = h.none (omega (arith, e)) in let y = shared_nothing c.0 c.1 z in omega arith;
    some = λ l.
        let i = h.some (omega (arith, l)) in
        let z : c.1 ≤ a.1 + b.1 + (n - 1) = omega (arith, i, l) in
        let y = shared_apart c.0 a.1 b.1 c.1 (n - 1) h.most z in
        let p = ap (λ x. shared x a.1) h.first in
        let q = ap (λ x. shared x b.1) h.second in
        omega (arith, i, l, y, p, q);
  }

  more_apart : (n : ℕ) (a b c : InRounds) → Apart n a b c → Apart (n + 1) (followed (f, s) a) (followed (f, t) b) (followed (f, s + t) c)
  more_apart n a b c h = record {
    most = shared_most f c.0 f_most h.most;
    first = ap (λ x. shared f x) h.first;
    second = ap (λ x. shared f x) h.second;
    none = λ e. absurd (omega (arith, e));
    some = λ l. by (cases_lt 0 n);
  }
    where
      by : (0 < n) ⊎ (n ≤ 0) → s + t + shared f c.1 + 1 ≤ s + shared f a.1 + (t + shared f b.1) + (n + 1)
      by (inl l) =
          let i = h.some l in
          let z : c.1 ≤ a.1 + b.1 + (n - 1) = omega (arith, i, l) in
          let y = shared_apart f a.1 b.1 c.1 (n - 1) f_most z in
          omega (arith, l, y)
      by (inr l) = let z = h.none (omega (arith, l)) in let y = shared_nothing f c.1 z in omega (arith, y)

  digit_apart : (n d : ℕ) (a b c : InRounds) → d < 2 → Apart n a b c → Apart (n * 2 + d) (with_digit (f, s) a d) (with_digit (f, t) b d) (with_digit (f, s + t) c d)
  digit_apart n zero a b c l h = subst (λ k. Apart k (followed a a) (followed b b) (followed c c)) (let e : n * 2 ≡ n * 2 + 0 = omega arith in e) (twice_apart n a b c h)
  digit_apart n (suc zero) a b c l h = more_apart (n * 2) (followed a a) (followed b b) (followed c c) (twice_apart n a b c h)
  digit_apart n (suc (suc d)) a b c l h = absurd (omega arith)

  digits_apart : (n : ℕ) (a b c : InRounds) (ds : List ℕ) → AllBelowBase 2 ds → Apart n a b c →
      Apart (number_from_digits_after 2 n ds) (with_digits (f, s) a ds) (with_digits (f, t) b ds) (with_digits (f, s + t) c ds)
  digits_apart n a b c [] l h = h
  digits_apart n a b c (d ∷ ds) l h = digits_apart (n * 2 + d) (with_digit (f, s) a d) (with_digit (f, t) b d) (with_digit (f, s + t) c d) ds l.1 (digit_apart n d a b c l.0 h)

  pub rounds_apart : (R : ℕ) → (in_rounds (f, s + t) R).1 ≤ (in_rounds (f, s) R).1 + (in_rounds (f, t) R).1 + R
  rounds_apart R =
      let h = digits_apart 0 no_round no_round no_round (digits_of 2 R) (all_below_base_digits_of 2 R (omega arith))
      (record { most = omega arith; first = refl; second = refl; none = λ e. refl; some = λ l. absurd (omega (arith, l)) }) in
      let e = number_digits_of 2 R (omega arith) in
      by (cases_lt 0 R) (subst (λ n. Apart n (in_rounds (f, s) R) (in_rounds (f, t) R) (in_rounds (f, s + t) R)) e h)
    where
      by : (0 < R) ⊎ (R ≤ 0) → Apart R (in_rounds (f, s) R) (in_rounds (f, t) R) (in_rounds (f, s + t) R) → (in_rounds (f, s + t) R).1 ≤ (in_rounds (f, s) R).1 + (in_rounds (f, t) R).1 + R
      by (inl l) h = let i = h.some l in omega (arith, i)
      by (inr l) h = let i = h.none (omega (arith, l)) in omega (arith, i)
