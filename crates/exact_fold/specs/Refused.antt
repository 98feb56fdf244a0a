-- Why a program has no exact masses. This project's own rule.
use Rattle.std.specs.Prelude.{◌≡◌, ◌<◌, None, true, false}
use Rattle.numbers.specs.Fraction.{Overfills}
use Rattle.gcl_core.specs.declared.answers.Limit.TheVariants.{Turns}
use Rattle.gcl_core.specs.declared.answers.Outcome.TheVariants as outcome
use Rattle.gcl_core.specs.meaning.Syntax.{SourceProgram}
use Rattle.gcl_core.specs.weighing.Mass.{mass_of}
use Rattle.table_flow.specs.Tables.{peak_of}
use Rattle.table_flow.specs.Width.{round_width}
use Rattle.mass_fold.specs.declared.table.TheConstants.{MOST_STATES}
use Rattle.forgetting.specs.Forgetful.{forgetful_of}
use Rattle.exact_fold.specs.InTheLimit.{FailsInTheLimit}
use Rattle.exact_fold.specs.Loops.{any_loops}
use Rattle.exact_fold.specs.declared.program.TheConstants.{TURNS_TRIED}
use Rattle.exact_fold.specs.declared.error.ExactError.{ExactError}
use Rattle.exact_fold.specs.declared.error.ExactError.TheVariants.{TooWide, TooManyStates, AllFailed, OutOfMemory}

abbrev pub HasNoLoop : SourceProgram → Type 0
HasNoLoop p = any_loops p.body ≡ false

abbrev pub HasLoops : SourceProgram → Type 0
HasLoops p = any_loops p.body ≡ true

-- At 128 turns, without limits of attempts and of rounds, masses are too wide, or of too many states, or some run has not ended: the
-- limit of turns has a mass.
pub data GoesBeyond (p : SourceProgram) : Type 0 where
  too_wide : Overfills (round_width p TURNS_TRIED None) → GoesBeyond p
  too_many_states : MOST_STATES < peak_of p TURNS_TRIED None → GoesBeyond p
  runs_on : 0 < (mass_of p TURNS_TRIED None None (outcome.Limit Turns)).0 → GoesBeyond p

-- Without a loop, at a limit of one turn: the common denominator of a round of the forgetful program is 2^128 or more, or some point of
-- it is reached with too many states. With a loop, at 128 turns: one of these holds of the forgetful program, or some run of it goes on.
abbrev pub WhyRefused : SourceProgram → ExactError → Type 0
WhyRefused p AllFailed = FailsInTheLimit p
WhyRefused p TooWide = (HasNoLoop p → Overfills (round_width (forgetful_of p) 1 None)) × (HasLoops p → GoesBeyond (forgetful_of p))
WhyRefused p TooManyStates = (HasNoLoop p → MOST_STATES < peak_of (forgetful_of p) 1 None) × (HasLoops p → GoesBeyond (forgetful_of p))
WhyRefused p OutOfMemory = Unit {0}
