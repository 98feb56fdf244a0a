-- Fractions of whole numbers, their lowest terms, and what fits into 128 bits. The width is this project's own rule.
use Rattle.std.specs.Prelude.{ℕ, ◌*◌, ◌/◌, ◌^◌, ◌≤◌, ◌≡◌, Bool, nat_lt}
use Rattle.numbers.specs.Divisor.{gcd}

-- a numerator over a denominator
abbrev pub Fraction : Type 0
Fraction = ℕ × ℕ

-- two fractions of one value
abbrev pub IsEqual : Fraction → Fraction → Type 0
IsEqual p q = p.0 * q.1 ≡ q.0 * p.1

abbrev pub lowest : Fraction → Fraction
lowest p = (p.0 / gcd p.0 p.1, p.1 / gcd p.0 p.1)

-- above 2 ^ 128 - 1
abbrev pub Overfills : ℕ → Type 0
Overfills n = 2 ^ 128 ≤ n

-- at most 2 ^ 128 - 1
abbrev pub fits : ℕ → Bool
fits n = nat_lt n (2 ^ 128)
