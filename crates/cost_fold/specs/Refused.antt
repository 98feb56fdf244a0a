-- Why there are no expected bits: for the spread, for the peak, or where memory runs out. This project's own rule.
use Rattle.std.specs.Prelude.{◌<◌, Some}
use Rattle.gcl_core.specs.declared.answers.Limits.{Limits}
use Rattle.gcl_core.specs.meaning.Syntax.{SourceProgram}
use Rattle.table_flow.specs.Tables.{peak_of}
use Rattle.cost_fold.specs.declared.error.CostError.{CostError}
use Rattle.cost_fold.specs.declared.error.CostError.TheVariants.{TooWide, TooManyStates, OutOfMemory}
use Rattle.cost_fold.specs.Spread.{spread}
use Rattle.mass_fold.specs.declared.table.TheConstants.{MOST_STATES}
use Rattle.numbers.specs.Fraction.{Overfills}

abbrev pub CostRefused : CostError → SourceProgram → Limits → Type 0
CostRefused TooWide p l = Overfills (spread p l)
CostRefused TooManyStates p l = MOST_STATES < peak_of p l.turns (Some l.attempts)
CostRefused OutOfMemory p l = Unit {0}
