-- The greatest common divisor and the least common multiple of two numbers, as arithmetic has them.
use Rattle.std.specs.Prelude.{ℕ, ◌*◌, ◌/◌, [], ◌∷◌}
use Rattle.gcl_core.specs.meaning.Divisor.{common_divisor}

abbrev pub gcd : ℕ → ℕ → ℕ
gcd a b = common_divisor (a ∷ b ∷ [])

abbrev pub lcm : ℕ → ℕ → ℕ
lcm a b = a * b / gcd a b
