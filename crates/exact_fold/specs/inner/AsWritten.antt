-- Why a program itself has no exact masses, before anything is forgotten. This project's own rule.
use Rattle.std.specs.Prelude.{◌<◌, None}
use Rattle.numbers.specs.Fraction.{Overfills}
use Rattle.gcl_core.specs.meaning.Syntax.{SourceProgram}
use Rattle.table_flow.specs.Tables.{peak_of}
use Rattle.table_flow.specs.Width.{round_width}
use Rattle.mass_fold.specs.declared.table.TheConstants.{MOST_STATES}
use Rattle.exact_fold.specs.InTheLimit.{FailsInTheLimit}
use Rattle.exact_fold.specs.Refused.{HasNoLoop, HasLoops, GoesBeyond}
use Rattle.exact_fold.specs.declared.error.ExactError.{ExactError}
use Rattle.exact_fold.specs.declared.error.ExactError.TheVariants.{TooWide, TooManyStates, AllFailed, OutOfMemory}

abbrev pub RefusedAsWritten : SourceProgram → ExactError → Type 0
RefusedAsWritten p AllFailed = FailsInTheLimit p
RefusedAsWritten p TooWide = (HasNoLoop p → Overfills (round_width p 1 None)) × (HasLoops p → GoesBeyond p)
RefusedAsWritten p TooManyStates = (HasNoLoop p → MOST_STATES < peak_of p 1 None) × (HasLoops p → GoesBeyond p)
RefusedAsWritten p OutOfMemory = Unit {0}
