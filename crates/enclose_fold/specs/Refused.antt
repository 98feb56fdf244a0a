-- Why bounds are refused: for the peak of the forgetful program, or where no limit of rounds is given and every round fails, or may do
-- so, but for what the roundings of the forgetful program may have lost. This project's own rule.
use Rattle.std.specs.Prelude.{◌≡◌, ℕ, ◌<◌, Option, None}
use Rattle.gcl_core.specs.meaning.Syntax.{SourceProgram}
use Rattle.gcl_core.specs.weighing.Fractions.{IsOne}
use Rattle.gcl_core.specs.weighing.Mass.{failed_mass}
use Rattle.table_flow.specs.Tables.{peak_of}
use Rattle.mass_fold.specs.declared.table.TheConstants.{MOST_STATES}
use Rattle.units_law.specs.FewOthers.{NearlyFails}
use Rattle.forgetting.specs.Forgetful.{forgetful_of}
use Rattle.enclose_fold.specs.declared.error.EncloseError.{EncloseError}
use Rattle.enclose_fold.specs.declared.error.EncloseError.TheVariants.{TooManyStates, AllFailed, TooUnlikely, OutOfMemory}

abbrev pub EncloseRefused : EncloseError → SourceProgram → ℕ → Option ℕ → Option ℕ → Type 0
EncloseRefused TooManyStates p n r R = MOST_STATES < peak_of (forgetful_of p) n r
EncloseRefused AllFailed p n r R = (R ≡ None) × IsOne (failed_mass p n r)
EncloseRefused TooUnlikely p n r R = (R ≡ None) × NearlyFails (forgetful_of p) n r
EncloseRefused OutOfMemory p n r R = Unit {0}
