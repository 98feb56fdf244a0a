-- Fractions, as two whole numbers with a second of at least 1, but for a division by a rest of nothing. They have no width and no
-- lowest terms: two are equal where their cross products are.
use Rattle.std.specs.Prelude.{◌≡◌, ℕ, zero, suc, ◌+◌, ◌*◌, ◌-◌, ◌≤◌, ◌<◌}

abbrev pub Fraction : Type 0
Fraction = ℕ × ℕ

abbrev pub zero_share : Fraction
zero_share = (0, 1)

abbrev pub one : Fraction
one = (1, 1)

abbrev pub plus : Fraction → Fraction → Fraction
plus p q = (p.0 * q.1 + q.0 * p.1, p.1 * q.1)

abbrev pub times : Fraction → Fraction → Fraction
times p q = (p.0 * q.0, p.1 * q.1)

abbrev pub power : Fraction → ℕ → Fraction
power p zero = one
power p (suc n) = times p (power p n)

-- 1 + p + .. + p ^ (n - 1)
abbrev pub power_sum : Fraction → ℕ → Fraction
power_sum p zero = zero_share
power_sum p (suc n) = plus one (times p (power_sum p n))

-- q over 1 - p, where p is below 1
abbrev pub divided_by_rest : Fraction → Fraction → Fraction
divided_by_rest q p = (q.0 * p.1, q.1 * (p.1 - p.0))

abbrev pub IsBelowOne : Fraction → Type 0
IsBelowOne p = p.0 < p.1

abbrev pub IsOne : Fraction → Type 0
IsOne p = p.0 ≡ p.1

abbrev pub AtMost : Fraction → Fraction → Type 0
AtMost p q = p.0 * q.1 ≤ q.0 * p.1

-- `many` is this fraction of `all`
abbrev pub IsShare : ℕ → ℕ → Fraction → Type 0
IsShare many all p = p.1 * many ≡ p.0 * all

-- `many` is at most this fraction of `all`
abbrev pub IsWithinShare : ℕ → ℕ → Fraction → Type 0
IsWithinShare many all p = p.1 * many ≤ p.0 * all
