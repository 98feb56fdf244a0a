-- Weights as whole numbers of units, of which ALL make one whole: products of two such weights, rounded down and up, and their
-- powers. This project's own rule.
use Rattle.std.specs.Prelude.{ℕ, zero, suc, ◌*◌, ◌/◌}
use Rattle.std.specs.Int.{div_ceil}
use Rattle.numbers.specs.declared.units.TheConstants.{ALL}

-- a times b, rounded down
abbrev pub shared : ℕ → ℕ → ℕ
shared a b = a * b / ALL

-- a times b, rounded up
abbrev pub shared_up : ℕ → ℕ → ℕ
shared_up a b = div_ceil (a * b) ALL

-- q to the power of a number, each product rounded down
abbrev pub power_down : ℕ → ℕ → ℕ
power_down q zero = ALL
power_down q (suc k) = shared q (power_down q k)

-- q to the power of a number, each product rounded up
abbrev pub power_up : ℕ → ℕ → ℕ
power_up q zero = ALL
power_up q (suc k) = shared_up q (power_up q k)
