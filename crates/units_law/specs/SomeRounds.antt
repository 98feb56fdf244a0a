-- What some rounds give at least, in units, by the binary digits of their number. This project's own rule.
use Rattle.std.specs.Prelude.{ℕ, ◌+◌, ◌==◌, List, [], ◌∷◌, if◌then◌else◌}
use Rattle.std.specs.Int.Digits.{digits_of}
use Rattle.numbers.specs.Units.{shared}
use Rattle.numbers.specs.declared.units.TheConstants.{ALL}

-- of some rounds, the units of what fails in all of them, and of what some outcomes have in them
abbrev pub InRounds : Type 0
InRounds = ℕ × ℕ

abbrev pub no_round : InRounds
no_round = (ALL, 0)

-- the rounds of a, and then those of b where all of a failed
abbrev pub followed : InRounds → InRounds → InRounds
followed a b = (shared a.0 b.0, a.1 + shared a.0 b.1)

-- twice as many, and for a digit 1 one more
abbrev pub with_digit : InRounds → InRounds → ℕ → InRounds
with_digit one so_far d = let twice = followed so_far so_far in if d == 0 then twice else followed one twice

abbrev pub with_digits : InRounds → InRounds → List ℕ → InRounds
with_digits one so_far [] = so_far
with_digits one so_far (d ∷ ds) = with_digits one (with_digit one so_far d) ds

-- R rounds, each as the one; the highest digit of R comes first
abbrev pub in_rounds : InRounds → ℕ → InRounds
in_rounds one R = with_digits one no_round (digits_of 2 R)
