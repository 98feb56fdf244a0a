-- Why masses are refused: for the width, for the peak, or where all rounds fail and none is the last. This project's own rule.
use Rattle.std.specs.Prelude.{◌≡◌, ℕ, ◌<◌, ◌≤◌, Option, None}
use Rattle.gcl_core.specs.weighing.Fractions.{IsOne}
use Rattle.gcl_core.specs.weighing.Mass.{failed_mass}
use Rattle.gcl_core.specs.meaning.Syntax.{SourceProgram}
use Rattle.gcl_core.specs.declared.rules.TheConstants.{MOST_LIMIT}
use Rattle.table_flow.specs.Tables.{peak_of}
use Rattle.table_flow.specs.Width.{round_width, width_of}
use Rattle.mass_fold.specs.declared.error.MassError.{MassError}
use Rattle.mass_fold.specs.declared.error.MassError.TheVariants.{TooWide, TooManyStates, AllFailed, OutOfMemory}
use Rattle.mass_fold.specs.declared.table.TheConstants.{MOST_STATES}
use Rattle.numbers.specs.Fraction.{Overfills}

-- a limit of attempts or of rounds
abbrev pub IsLimit : ℕ → Type 0
IsLimit r = (1 ≤ r) × (r ≤ MOST_LIMIT)

abbrev pub RoundRefused : MassError → SourceProgram → ℕ → Option ℕ → Type 0
RoundRefused TooWide p n r = Overfills (round_width p n r)
RoundRefused TooManyStates p n r = MOST_STATES < peak_of p n r
RoundRefused AllFailed p n r = ⊥
RoundRefused OutOfMemory p n r = Unit {0}

abbrev pub MassRefused : MassError → SourceProgram → ℕ → Option ℕ → Option ℕ → Type 0
MassRefused TooWide p n r R = Overfills (width_of p n r R)
MassRefused TooManyStates p n r R = MOST_STATES < peak_of p n r
MassRefused AllFailed p n r R = (R ≡ None) × IsOne (failed_mass p n r)
MassRefused OutOfMemory p n r R = Unit {0}
