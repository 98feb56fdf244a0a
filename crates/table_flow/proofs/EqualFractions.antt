-- Sums and products of fractions of one value.
use Rattle.std.proofs.Common.{◌≡◌, ℕ, ◌+◌, ◌*◌, ap, arith}
use Rattle.gcl_core.specs.weighing.Fractions.{Fraction, plus, times}
use Rattle.numbers.specs.Fraction.{IsEqual}

pub equal_plus : (p q s t : Fraction) → IsEqual p q → IsEqual s t → IsEqual (plus p s) (plus q t)
equal_plus p q s t e f = joined p.0 p.1 q.0 q.1 s.0 s.1 t.0 t.1 e f
  where
    joined : (p0 p1 q0 q1 s0 s1 t0 t1 : ℕ) → p0 * q1 ≡ q0 * p1 → s0 * t1 ≡ t0 * s1 → (p0 * s1 + s0 * p1) * (q1 * t1) ≡ (q0 * t1 + t0 * q1) * (p1 * s1)
    joined p0 p1 q0 q1 s0 s1 t0 t1 e f = let x = ap (λ z. z * (s1 * t1)) e in let y = ap (λ z. z * (p1 * q1)) f in omega arith

pub equal_times : (p q s t : Fraction) → IsEqual p q → IsEqual s t → IsEqual (times p s) (times q t)
equal_times p q s t e f = joined p.0 p.1 q.0 q.1 s.0 s.1 t.0 t.1 e f
  where
    joined : (p0 p1 q0 q1 s0 s1 t0 t1 : ℕ) → p0 * q1 ≡ q0 * p1 → s0 * t1 ≡ t0 * s1 → p0 * s0 * (q1 * t1) ≡ q0 * t0 * (p1 * s1)
    joined p0 p1 q0 q1 s0 s1 t0 t1 e f = let x = ap (λ z. z * (s0 * t1)) e in let y = ap (λ z. q0 * p1 * z) f in omega arith
