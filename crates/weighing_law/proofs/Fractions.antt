-- Fractions at most others.
use Rattle.std.proofs.Common.{◌≡◌, ℕ, zero, suc, ◌+◌, ◌*◌, ◌-◌, ◌≤◌, ◌<◌, refl, arith}
use Rattle.std.proofs.Math.Nat.{mul-le-mul_left, mul-le-mul_right, le_of_mul-le-mul_left, le_of_mul-le-mul_right}
use Rattle.gcl_core.specs.weighing.Fractions.{Fraction, zero_share, plus, times, power, power_sum, AtMost}

pub at_most_then : (p q r : Fraction) → 0 < q.1 → AtMost p q → AtMost q r → AtMost p r
at_most_then p q r some h k = le_of_mul-le-mul_right {k = q.1} (let x = mul-le-mul_right r.1 h in let y = mul-le-mul_left p.1 k in omega arith) some

pub at_most_plus : (p q r s : Fraction) → AtMost p q → AtMost r s → AtMost (plus p r) (plus q s)
at_most_plus p q r s h k = let x = mul-le-mul_right (r.1 * s.1) h in let y = mul-le-mul_right (p.1 * q.1) k in omega arith

pub at_most_times : (p q r s : Fraction) → AtMost p q → AtMost r s → AtMost (times p r) (times q s)
at_most_times p q r s h k = let x = mul-le-mul_right (r.0 * s.1) h in let y = mul-le-mul_left (q.0 * p.1) k in omega arith

pub at_most_power : (p q : Fraction) → AtMost p q → (R : ℕ) → AtMost (power p R) (power q R)
at_most_power p q h zero = omega arith
at_most_power p q h (suc R) = at_most_times p q (power p R) (power q R) h (at_most_power p q h R)

pub plus_nothing : (p q : Fraction) → AtMost p q → AtMost (plus p zero_share) q
plus_nothing p q h = omega arith

-- 1 + f + .. is at most 1 over what is left of 1, where f is at most u / (u + d)
pub series_at_most : (f : Fraction) (u d : ℕ) → f.0 * (u + d) ≤ u * f.1 → (R : ℕ) → (power_sum f R).0 * d ≤ (u + d) * (power_sum f R).1
series_at_most f u d h zero = omega arith
series_at_most f u d h (suc R) = more f.0 f.1 (power_sum f R).0 (power_sum f R).1 u d h (series_at_most f u d h R)
  where
    more : (f0 f1 g0 g1 u d : ℕ) → f0 * (u + d) ≤ u * f1 → g0 * d ≤ (u + d) * g1 → (1 * (f1 * g1) + f0 * g0 * 1) * d ≤ (u + d) * (1 * (f1 * g1))
    more f0 f1 g0 g1 u d a b = let x = mul-le-mul_left f0 b in let y = mul-le-mul_right g1 a in omega arith

-- ---- powers fall
power_at_most_one : (f : Fraction) → f.0 ≤ f.1 → (R : ℕ) → (power f R).0 ≤ (power f R).1
power_at_most_one f h zero = omega arith
power_at_most_one f h (suc R) = let x = mul-le-mul_right (power f R).0 h in let y = mul-le-mul_left f.1 (power_at_most_one f h R) in omega arith

-- by Bernoulli's inequality
power_falls : (f : Fraction) (d : ℕ) → f.1 ≡ f.0 + d → (R : ℕ) → (power f R).0 * (f.0 + R * d) ≤ f.0 * (power f R).1
power_falls f d e zero = omega arith
power_falls f d e (suc R) = more f.0 f.1 d R (power f R).0 (power f R).1 e (power_at_most_one f (omega (arith, e)) R) (power_falls f d e R)
  where
    more : (f0 f1 d R a b : ℕ) → f1 ≡ f0 + d → a ≤ b → a * (f0 + R * d) ≤ f0 * b → f0 * a * (f0 + suc R * d) ≤ f0 * (f1 * b)
    more f0 f1 d R a b e h k = rw e (let x = mul-le-mul_left f0 k in let y = mul-le-mul_left (f0 * d) h in omega arith)

pub power_below : (f : Fraction) (m R : ℕ) → f.0 < f.1 → m * f.0 + 1 ≤ R → AtMost (power f R) (1, m)
power_below f m zero lt h = absurd (omega arith)
power_below f m (suc R) lt h =
    let d = f.1 - f.0 in
    let e : f.1 ≡ f.0 + d = omega arith in
    by_zero f.0 d m (suc R) (power f (suc R)).0 (power f (suc R)).1 (omega arith) h (power_falls f d e (suc R)) (starts f.0 (power f R).0)
  where
    starts : (f0 a : ℕ) → f0 ≡ 0 → f0 * a ≡ 0
    starts f0 a e = rw e (omega arith)

    by_zero : (f0 d m R a b : ℕ) → 1 ≤ d → m * f0 + 1 ≤ R → a * (f0 + R * d) ≤ f0 * b → (f0 ≡ 0 → a ≡ 0) → a * m ≤ 1 * b
    by_zero zero d m R a b some h k none = let z = none refl in rw z (omega arith)
    by_zero (suc c) d m R a b some h k none =
        le_of_mul-le-mul_left {k = suc c}
        (let x = mul-le-mul_left R some in let y : m * suc c ≤ suc c + R * d = omega arith in let z = mul-le-mul_left a y in omega arith)
        (omega arith)
