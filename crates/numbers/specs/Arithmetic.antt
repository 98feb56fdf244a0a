-- What arithmetic gives of fractions in lowest terms, as far as 128 bits reach.
-- The values are those of arithmetic; what does not fit, and so has no answer, is this project's own rule.
use Rattle.std.specs.Prelude.{ℕ, ◌+◌, ◌-◌, ◌*◌, ◌/◌, ◌≤◌, ◌&&◌, ◌==◌, Option, Some, None, nat_le, if◌then◌else◌}
use Rattle.std.specs.Int.{IsGcd}
use Rattle.std.specs.Ordering.{nat_cmp}
use Rattle.std.specs.declared.cmp.Ordering.{Ordering}
use Rattle.numbers.specs.Divisor.{lcm}
use Rattle.numbers.specs.Fraction.{Fraction, lowest, fits}

pub record InLowest (p : Fraction) : Type 0 where
  pub positive : 1 ≤ p.1
  pub coprime : IsGcd p.0 p.1 1

abbrev pub if_fits : Fraction → Option Fraction
if_fits p = if fits p.0 && fits p.1 then Some p else None

-- ---- over a common denominator

-- the numerator over a multiple l of the denominator
abbrev pub raised : Fraction → ℕ → ℕ
raised p l = p.0 * (l / p.1)

-- a common denominator, and the two numerators over it
abbrev pub Common : Type 0
Common = ℕ × ℕ × ℕ

abbrev pub if_all_fit : Common → Option Common
if_all_fit c = if fits c.0 && fits c.1 && fits c.2 then Some c else None

-- two fractions over the least common multiple of their denominators
abbrev pub common_of : Fraction → Fraction → Option Common
common_of p q = let l = lcm p.1 q.1 in if_all_fit (l, raised p l, raised q l)

abbrev pub sum_over : Option Common → Option Fraction
sum_over None = None
sum_over (Some c) = if fits (c.1 + c.2) then Some (lowest (c.1 + c.2, c.0)) else None

abbrev pub difference_over : Option Common → Option Fraction
difference_over None = None
difference_over (Some c) = if nat_le c.2 c.1 then Some (lowest (c.1 - c.2, c.0)) else None

-- ---- the operations

abbrev pub sum_of : Fraction → Fraction → Option Fraction
sum_of p q = sum_over (common_of p q)

abbrev pub difference_of : Fraction → Fraction → Option Fraction
difference_of p q = difference_over (common_of p q)

abbrev pub product_of : Fraction → Fraction → Option Fraction
product_of p q = if_fits (lowest (p.0 * q.0, p.1 * q.1))

abbrev pub quotient_of : Fraction → Fraction → Option Fraction
quotient_of p q = if q.0 == 0 then None else if_fits (lowest (p.0 * q.1, p.1 * q.0))

abbrev pub order_of : Fraction → Fraction → Ordering
order_of p q = nat_cmp (p.0 * q.1) (q.0 * p.1)
