-- What some rounds lose: what each loses, where all before it failed, and by rounding at most two units for each.
use Rattle.std.proofs.Common.{◌≡◌, ◌⊎◌, inl, inr, ℕ, zero, suc, ◌+◌, ◌-◌, ◌*◌, ◌≤◌, ◌<◌, List, [], ◌∷◌, refl, ap, subst, ◌∙◌, arith}
use Rattle.std.specs.Int.Digits.{digits_of, number_from_digits_after, AllBelowBase}
use Rattle.std.proofs.lemmas.Bool.{cases_lt}
use Rattle.std.proofs.lemmas.Int.Digits.{number_digits_of, all_below_base_digits_of}
use Rattle.std.proofs.lemmas.Nat.{div-add-mod', mod_below}
use Rattle.numbers.specs.Units.{shared}
use Rattle.numbers.specs.declared.units.TheConstants.{ALL}
use Rattle.units_law.specs.SomeRounds.{InRounds, no_round, followed, with_digit, with_digits, in_rounds}
use Rattle.units_law.proofs.KeptInRounds.{same_fails}
use Rattle.units_law.proofs.RoundsApart.{shared_apart, shared_most, shared_nothing, rounds_apart}

-- ---- where a round loses nothing
shared_all : (f z : ℕ) → z ≡ ALL → shared f z ≡ f
shared_all f z e =
    let x : shared f z ≡ shared f ALL = ap (λ t. shared f t) e in
    let d = div-add-mod' (f * ALL) ALL in
    let m = mod_below (f * ALL) ALL (omega arith) in
    x ∙ omega arith

-- what is left of a product of all, where x and y are all but for e units
shared_parts : (f x y e : ℕ) → f ≤ ALL → ALL ≤ x + y + e → f ≤ shared f x + shared f y + (e + 1)
shared_parts f x y e most h = let i = shared_apart f x y ALL e most h in let j = shared_all f ALL refl in omega (arith, i, j)

-- after n rounds
record Kept (n : ℕ) (a : InRounds) : Type 0 where
  most : a.0 ≤ ALL
  none : n ≡ 0 → (a.0 ≡ ALL) × (a.1 ≡ 0)
  some : 0 < n → ALL + 1 ≤ a.0 + a.1 + n

module _ (f h : ℕ) (whole : f + h ≡ ALL) where
  twice_kept : (n : ℕ) (a : InRounds) → Kept n a → Kept (n * 2) (followed a a)
  twice_kept n a k = record {
    most = shared_most a.0 a.0 k.most k.most;
    none = λ e.
        let z = k.none (omega (arith, e)) in
        (shared_all a.0 a.0 z.0 ∙ z.0, let y = shared_nothing a.0 a.1 z.1 in let x = z.1 in omega (arith, x, y));
    some = λ l.
        let i = k.some (omega (arith, l)) in
        let y = shared_parts a.0 a.0 a.1 (n - 1) k.most (omega (arith, i, l)) in
        omega (arith, i, l, y);
  }

  more_kept : (n : ℕ) (a : InRounds) → Kept n a → Kept (n + 1) (followed (f, h) a)
  more_kept n a k = record {
    most = shared_most f a.0 (omega (arith, whole)) k.most;
    none = λ e. absurd (omega (arith, e));
    some = λ l. by (cases_lt 0 n);
  }
    where
      by : (0 < n) ⊎ (n ≤ 0) → ALL + 1 ≤ shared f a.0 + (h + shared f a.1) + (n + 1)
      by (inl l) =
          let i = k.some l in
          let y = shared_parts f a.0 a.1 (n - 1) (omega (arith, whole)) (omega (arith, i, l)) in
          omega (arith, l, y, whole)
      by (inr l) = let y = shared_all f a.0 (k.none (omega (arith, l))).0 in omega (arith, y, whole)

  digit_kept : (n d : ℕ) (a : InRounds) → d < 2 → Kept n a → Kept (n * 2 + d) (with_digit (f, h) a d)
  digit_kept n zero a l k = subst (λ t. Kept t (followed a a)) (let e : n * 2 ≡ n * 2 + 0 = omega arith in e) (twice_kept n a k)
  digit_kept n (suc zero) a l k = more_kept (n * 2) (followed a a) (twice_kept n a k)
  digit_kept n (suc (suc d)) a l k = absurd (omega arith)

  digits_kept : (n : ℕ) (a : InRounds) (ds : List ℕ) → AllBelowBase 2 ds → Kept n a → Kept (number_from_digits_after 2 n ds) (with_digits (f, h) a ds)
  digits_kept n a [] l k = k
  digits_kept n a (d ∷ ds) l k = digits_kept (n * 2 + d) (with_digit (f, h) a d) ds l.1 (digit_kept n d a l.0 k)

  rounds_keep : (R : ℕ) → ALL ≤ (in_rounds (f, h) R).0 + (in_rounds (f, h) R).1 + R
  rounds_keep R =
      let k = digits_kept 0 no_round (digits_of 2 R) (all_below_base_digits_of 2 R (omega arith)) (record { most = omega arith; none = λ e. (refl, refl); some = λ l. absurd (omega (arith, l)) }) in
      by (cases_lt 0 R) (subst (λ n. Kept n (in_rounds (f, h) R)) (number_digits_of 2 R (omega arith)) k)
    where
      by : (0 < R) ⊎ (R ≤ 0) → Kept R (in_rounds (f, h) R) → ALL ≤ (in_rounds (f, h) R).0 + (in_rounds (f, h) R).1 + R
      by (inl l) k = let i = k.some l in omega (arith, i)
      by (inr l) k = let i = (k.none (omega (arith, l))).0 in omega (arith, i)

-- ---- where of f, g and l, which are all, l is lost in a round
pub rounds_lose : (f g l R : ℕ) → f + (g + l) ≡ ALL → ALL ≤ (in_rounds (f, g) R).0 + (in_rounds (f, g) R).1 + (in_rounds (f, l) R).1 + 2 * R
rounds_lose f g l R whole =
    let k = rounds_keep f (g + l) whole R in
    let a = rounds_apart f g l (omega (arith, whole)) R in
    let s = same_fails f (g + l) g R in
    omega (arith, k, a, s)
