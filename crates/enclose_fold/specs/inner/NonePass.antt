-- Which units of a round fail where none passes: all, or not all. This project's own rule.
use Rattle.std.specs.Prelude.{◌≡◌, ℕ, ◌<◌, Option}
use Rattle.numbers.specs.declared.units.TheConstants.{ALL}
use Rattle.gcl_core.specs.meaning.Syntax.{SourceProgram}
use Rattle.units_law.specs.Enclosures.{fails_in, NothingPasses}
use Rattle.enclose_fold.specs.declared.error.EncloseError.{EncloseError}
use Rattle.enclose_fold.specs.declared.error.EncloseError.TheVariants.{TooManyStates, AllFailed, TooUnlikely, OutOfMemory}

abbrev pub NonePass : EncloseError → SourceProgram → ℕ → Option ℕ → Type 0
NonePass TooManyStates p n r = Unit {0}
NonePass AllFailed p n r = fails_in p n r ≡ ALL
NonePass TooUnlikely p n r = (fails_in p n r < ALL) × NothingPasses p n r
NonePass OutOfMemory p n r = Unit {0}
