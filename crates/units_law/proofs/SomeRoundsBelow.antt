-- Some rounds stay below what they give, whatever the digits of their number.
use Rattle.std.proofs.Common.{◌≡◌, ℕ, zero, suc, ◌+◌, ◌*◌, ◌<◌, ◌≤◌, cond, List, [], ◌∷◌, ap, subst, arith}
use Rattle.std.specs.Prelude.{◌==◌}
use Rattle.std.specs.Int.Digits.{digits_of, number_from_digits_after, AllBelowBase}
use Rattle.std.proofs.lemmas.Int.Digits.{number_digits_of, all_below_base_digits_of}
use Rattle.std.proofs.lemmas.Nat.{div-add-mod'}
use Rattle.std.proofs.Math.Nat.{mul-le-mul_left, mul-le-mul_right, le_of_mul-le-mul_right}
use Rattle.numbers.specs.Units.{shared}
use Rattle.numbers.specs.declared.units.TheConstants.{ALL}
use Rattle.gcl_core.specs.weighing.Fractions.{Fraction, plus, times, power, power_sum}
use Rattle.units_law.specs.Rounds.{StandsBelow}
use Rattle.weighing_law.proofs.Shares.{product_pos, power_pos, power_sum_pos}
use Rattle.units_law.specs.SomeRounds.{InRounds, no_round, followed, with_digit, with_digits, in_rounds}

-- ---- a product rounded down
shared_at_most : (a b : ℕ) → shared a b * ALL ≤ a * b
shared_at_most a b = let e = div-add-mod' (a * b) ALL in omega arith

some_units : 0 < ALL
some_units = omega arith

shared_below : (a b : ℕ) (p q : Fraction) → StandsBelow a p → StandsBelow b q → StandsBelow (shared a b) (times p q)
shared_below a b p q h k =
    let x = mul-le-mul_right (p.1 * q.1) (shared_at_most a b) in
    let y = mul-le-mul_right (b * q.1) h in
    let z = mul-le-mul_left (p.0 * ALL) k in
    le_of_mul-le-mul_right {k = ALL} (omega arith) some_units

pub added_below : (u v : ℕ) (p q : Fraction) → StandsBelow u p → StandsBelow v q → StandsBelow (u + v) (plus p q)
added_below u v p q h k = let x = mul-le-mul_right q.1 h in let y = mul-le-mul_right p.1 k in omega arith

-- ---- powers of a sum of numbers
power_first : (p : Fraction) (R T : ℕ) → (power p (R + T)).0 ≡ (power p R).0 * (power p T).0
power_first p zero T = let e : 0 + T ≡ T = omega arith in rw e (omega arith)
power_first p (suc R) T = let e : suc R + T ≡ suc (R + T) = omega arith in let i = ap (λ x. p.0 * x) (power_first p R T) in rw e (omega arith)

power_second : (p : Fraction) (R T : ℕ) → (power p (R + T)).1 ≡ (power p R).1 * (power p T).1
power_second p zero T = let e : 0 + T ≡ T = omega arith in rw e (omega arith)
power_second p (suc R) T = let e : suc R + T ≡ suc (R + T) = omega arith in let i = ap (λ x. p.1 * x) (power_second p R T) in rw e (omega arith)

-- as many rounds, and the others where each of them failed
abbrev joined : Fraction → ℕ → ℕ → Fraction
joined p R T = plus (power_sum p R) (times (power p R) (power_sum p T))

sums_joined : (p : Fraction) (R T : ℕ) → (power_sum p (R + T)).0 * (joined p R T).1 ≡ (joined p R T).0 * (power_sum p (R + T)).1
sums_joined p zero T = let e : 0 + T ≡ T = omega arith in rw e (omega arith)
sums_joined p (suc R) T = let e : suc R + T ≡ suc (R + T) = omega arith in rw e (step p.0 p.1 (power_sum p (R + T)).0 (power_sum p (R + T)).1 (power_sum p R).0 (power_sum p R).1 (power p R).0 (power p R).1 (power_sum p T).0 (power_sum p T).1 (sums_joined p R T))
  where
    step : (p0 p1 x0 x1 a0 a1 b0 b1 c0 c1 : ℕ) → x0 * (a1 * (b1 * c1)) ≡ (a0 * (b1 * c1) + b0 * c0 * a1) * x1 →
        (1 * (p1 * x1) + p0 * x0 * 1) * (1 * (p1 * a1) * (p1 * b1 * c1)) ≡ ((1 * (p1 * a1) + p0 * a0 * 1) * (p1 * b1 * c1) + p0 * b0 * c0 * (1 * (p1 * a1))) * (1 * (p1 * x1))
    step p0 p1 x0 x1 a0 a1 b0 b1 c0 c1 e = let u = ap (λ t. p0 * p1 * p1 * t) e in omega arith

-- what stands below a fraction stands below each that is equal to it
below_equal : (u : ℕ) (p q : Fraction) → 0 < p.1 → p.0 * q.1 ≡ q.0 * p.1 → StandsBelow u p → StandsBelow u q
below_equal u p q some e h =
    le_of_mul-le-mul_right {k = p.1} (let x = mul-le-mul_right q.1 h in let y = ap (λ t. t * ALL) e in omega arith) some

-- ---- rounds
module _ (m p : Fraction) (m_some : 0 < m.1) (p_some : 0 < p.1) where
  -- below R rounds of which each gives m, and fails with p
  pub record AreBelow (R : ℕ) (a : InRounds) : Type 0 where
    pub fails : StandsBelow a.0 (power p R)
    pub gives : StandsBelow a.1 (times m (power_sum p R))

  none_below : AreBelow 0 no_round
  none_below = record { fails = omega arith; gives = omega arith }

  one_below : (a : InRounds) → StandsBelow a.0 p → StandsBelow a.1 m → AreBelow 1 a
  one_below a h k = record { fails = omega arith; gives = let x = mul-le-mul_right p.1 k in omega arith }

  followed_below : (R T : ℕ) (a b : InRounds) → AreBelow R a → AreBelow T b → AreBelow (R + T) (followed a b)
  followed_below R T a b h k = record {
    fails = let s = shared_below a.0 b.0 (power p R) (power p T) h.fails k.fails in rw (power_first p R T, power_second p R T) s;
    gives = below_equal (a.1 + shared a.0 b.1) (plus (times m (power_sum p R)) (times (power p R) (times m (power_sum p T)))) (times m (power_sum p (R + T)))
        (product_pos (m.1 * (power_sum p R).1) ((power p R).1 * (m.1 * (power_sum p T).1)) (product_pos m.1 (power_sum p R).1 m_some (power_sum_pos p p_some R))
        (product_pos (power p R).1 (m.1 * (power_sum p T).1) (power_pos p p_some R) (product_pos m.1 (power_sum p T).1 m_some (power_sum_pos p p_some T))))
        (apart m.0 m.1 (power_sum p (R + T)).0 (power_sum p (R + T)).1 (power_sum p R).0 (power_sum p R).1 (power p R).0 (power p R).1 (power_sum p T).0 (power_sum p T).1 (sums_joined p R T))
        (added_below a.1 (shared a.0 b.1) (times m (power_sum p R)) (times (power p R) (times m (power_sum p T))) h.gives
        (shared_below a.0 b.1 (power p R) (times m (power_sum p T)) h.fails k.gives));
  }
    where
      apart : (m0 m1 x0 x1 a0 a1 b0 b1 c0 c1 : ℕ) → x0 * (a1 * (b1 * c1)) ≡ (a0 * (b1 * c1) + b0 * c0 * a1) * x1 →
          (m0 * a0 * (b1 * (m1 * c1)) + b0 * (m0 * c0) * (m1 * a1)) * (m1 * x1) ≡ m0 * x0 * (m1 * a1 * (b1 * (m1 * c1)))
      apart m0 m1 x0 x1 a0 a1 b0 b1 c0 c1 e = let u = ap (λ t. m0 * m1 * m1 * t) e in omega arith

  digit_below : (one : InRounds) → AreBelow 1 one → (n d : ℕ) (a : InRounds) → d < 2 → AreBelow n a → AreBelow (n * 2 + d) (with_digit one a d)
  digit_below one o n d a l h = by d l (followed_below n n a a h h)
    where
      by : (d : ℕ) → d < 2 → AreBelow (n + n) (followed a a) → AreBelow (n * 2 + d) (cond (d == 0) (followed a a) (followed one (followed a a)))
      by zero l t = let e : n + n ≡ n * 2 + 0 = omega arith in subst (λ k. AreBelow k (followed a a)) e t
      by (suc zero) l t = let e : 1 + (n + n) ≡ n * 2 + 1 = omega arith in subst (λ k. AreBelow k (followed one (followed a a))) e (followed_below 1 (n + n) one (followed a a) o t)
      by (suc (suc d)) l t = absurd (omega arith)

  digits_below : (one : InRounds) → AreBelow 1 one → (n : ℕ) (a : InRounds) (ds : List ℕ) → AllBelowBase 2 ds → AreBelow n a → AreBelow (number_from_digits_after 2 n ds) (with_digits one a ds)
  digits_below one o n a [] b h = h
  digits_below one o n a (d ∷ ds) b h = digits_below one o (n * 2 + d) (with_digit one a d) ds b.1 (digit_below one o n d a b.0 h)

  pub rounds_below : (one : InRounds) → StandsBelow one.0 p → StandsBelow one.1 m → (R : ℕ) → AreBelow R (in_rounds one R)
  rounds_below one h k R =
      subst (λ n. AreBelow n (in_rounds one R)) (number_digits_of 2 R (omega arith))
      (digits_below one (one_below one h k) 0 no_round (digits_of 2 R) (all_below_base_digits_of 2 R (omega arith)) none_below)
