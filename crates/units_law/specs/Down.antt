-- Products rounded down to units of which ALL make one whole. This project's own rule.
use Rattle.std.specs.Prelude.{ℕ, ◌-◌, ◌*◌, ◌/◌, ◌^◌, Option, Some, None}
use Rattle.std.specs.Int.{div_ceil}
use Rattle.numbers.specs.declared.units.TheConstants.{ALL}
use Rattle.numbers.specs.Units.{shared, power_down, power_up}
use Rattle.gcl_core.specs.meaning.Draw.{bits_for, rejected_numbers}
use Rattle.units_law.specs.Rounding.{Rounding}

-- that an attempt among b numbers is rejected, rounded down and up; both are exact for numbers of at most 120 bits
abbrev pub again_down : ℕ → ℕ
again_down b = rejected_numbers b * ALL / 2 ^ bits_for b

abbrev pub again_up : ℕ → ℕ
again_up b = div_ceil (rejected_numbers b * ALL) (2 ^ bits_for b)

-- some attempt is not rejected, and gives a class of c of b numbers
abbrev pub share_of : ℕ → Option ℕ → (c w : ℕ) → ℕ
share_of b None c w = w * c / b
share_of b (Some r) c w = shared w (ALL - power_up (again_up b) r) * c / b

-- each attempt is rejected
abbrev pub rest_of : ℕ → Option ℕ → ℕ → ℕ
rest_of b None w = 0
rest_of b (Some r) w = shared w (power_down (again_down b) r)

abbrev pub down : Rounding
down = record { share = share_of; rest = rest_of }
