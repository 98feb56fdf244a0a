-- What a run costs on average under limits, by what each round costs: each that is begun counts, by the weight with which it is. Where a
-- round costs the bits that it reads these are the expected bits; where it costs 1 it is the expected number of rounds. This project's own
-- rule.
use Rattle.std.specs.Prelude.{ℕ, Some}
use Rattle.gcl_core.specs.declared.answers.Limits.{Limits}
use Rattle.gcl_core.specs.meaning.Syntax.{SourceProgram}
use Rattle.gcl_core.specs.weighing.Fractions.{Fraction, one, times, power_sum}
use Rattle.gcl_core.specs.weighing.Mass.{failed_mass}

-- what a round costs under limits of n turns and r attempts
abbrev pub RoundCost : Type 0
RoundCost = (n r : ℕ) → Fraction

-- the first round is begun, and each other after those that failed
abbrev pub expected_cost : SourceProgram → RoundCost → Limits → Fraction
expected_cost p cost l = times (cost l.turns l.attempts) (power_sum (failed_mass p l.turns (Some l.attempts)) l.rounds)

-- how many rounds a run begins
abbrev pub expected_rounds : SourceProgram → Limits → Fraction
expected_rounds p = expected_cost p (λ n r. one)
