-- How little the limits of attempts and of rounds weigh where they are great. This project's own rule.
use Rattle.std.specs.Prelude.{ℕ, ◌+◌, ◌*◌, ◌^◌, None}
use Rattle.gcl_core.specs.declared.answers.Limits.{Limits}
use Rattle.gcl_core.specs.meaning.Syntax.{SourceProgram}
use Rattle.gcl_core.specs.weighing.Fractions.{Fraction, plus, power, divided_by_rest}
use Rattle.gcl_core.specs.weighing.LongestReading.{longest}
use Rattle.gcl_core.specs.weighing.Mass.{failed_mass}

-- D / 2 ^ attempts / (1 - f) + f ^ rounds, where D is the longest reading of a round in bits with one attempt for each draw,
-- and f the probability that a round fails without a limit of attempts.
abbrev pub most_cut_off : SourceProgram → Limits → Fraction
most_cut_off p l =
    plus (divided_by_rest (longest l.turns 1 p.body, 2 ^ l.attempts) (failed_mass p l.turns None))
    (power (failed_mass p l.turns None) l.rounds)

-- at n turns, with so many attempts and rounds the two limits weigh at most 1 / k
abbrev pub enough_attempts : SourceProgram → ℕ → ℕ → ℕ
enough_attempts p n k = 2 * k * (longest n 1 p.body * (failed_mass p n None).1) + 1

abbrev pub enough_rounds : SourceProgram → ℕ → ℕ → ℕ
enough_rounds p n k = 2 * k * (failed_mass p n None).0 + 1
