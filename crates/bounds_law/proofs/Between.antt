-- Fractions at most others, where a share stands in place of its fraction.
use Rattle.std.proofs.Common.{◌≡◌, ℕ, ◌+◌, ◌*◌, ◌≤◌, ◌<◌, ap, arith}
use Rattle.std.proofs.Math.Nat.{mul-le-mul_left, mul-le-mul_right, le_of_mul-le-mul_right}
use Rattle.gcl_core.specs.weighing.Fractions.{Fraction, plus, AtMost}

-- with the share that p is in place of p
pub share_below : (W T : ℕ) (p q : Fraction) → 0 < p.1 → p.1 * W ≤ p.0 * T → AtMost p q → AtMost (W, T) q
share_below W T p q some h k = le_of_mul-le-mul_right {k = p.1} (let x = mul-le-mul_right q.1 h in let y = mul-le-mul_right T k in omega arith) some

pub share_above : (W T : ℕ) (p c q : Fraction) → 0 < p.1 → p.1 * W ≡ p.0 * T → AtMost q (plus p c) → AtMost q (plus (W, T) c)
share_above W T p c q some e k =
    le_of_mul-le-mul_right {k = p.1}
    (let x = mul-le-mul_right T k in let y = ap (λ x. q.1 * c.1 * x) e in omega arith)
    some

pub equal_at_most : (p q : Fraction) → p.0 * q.1 ≡ q.0 * p.1 → AtMost q p
equal_at_most p q e = omega (arith, e)

-- with a share that p is at most, in two parts
pub share_above_parts : (W U T : ℕ) (p c q : Fraction) → 0 < p.1 → p.0 * T ≤ p.1 * (W + U) → AtMost q (plus p c) → AtMost q (plus (plus (W, T) (U, T)) c)
share_above_parts W U T p c q some e k =
    le_of_mul-le-mul_right {k = p.1}
    (let x = mul-le-mul_right (T * T) k in let y = mul-le-mul_left (q.1 * c.1 * T) e in omega arith)
    some
