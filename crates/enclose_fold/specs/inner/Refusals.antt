-- Why a table of units is refused.
use Rattle.std.specs.Prelude.{ℕ, ◌<◌, length}
use Rattle.gcl_core.specs.meaning.Value.{State}
use Rattle.mass_fold.specs.declared.table.TheConstants.{MOST_STATES}
use Rattle.units_law.specs.Units.{Units}
use Rattle.units_law.specs.Merged.{merged}
use Rattle.enclose_fold.specs.declared.error.EncloseError.{EncloseError}
use Rattle.enclose_fold.specs.declared.error.EncloseError.TheVariants.{TooManyStates, AllFailed, TooUnlikely, OutOfMemory}

-- where L states are to be held
abbrev pub Refuses : EncloseError → ℕ → Type 0
Refuses TooManyStates L = MOST_STATES < L
Refuses AllFailed L = ⊥
Refuses TooUnlikely L = ⊥
Refuses OutOfMemory L = Unit {0}

-- where the states of a list are to be held, each once
abbrev pub RefusedAt : Units State → EncloseError → Type 0
RefusedAt J e = Refuses e (length (merged J))
