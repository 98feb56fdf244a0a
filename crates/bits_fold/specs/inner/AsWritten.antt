-- Why it is not said what a program itself reads, before anything is forgotten, and why all rounds do not fit.
use Rattle.std.specs.Prelude.{ℕ, ◌+◌, ◌<◌, None}
use Rattle.numbers.specs.Fraction.{Overfills}
use Rattle.gcl_core.specs.meaning.Syntax.{SourceProgram}
use Rattle.gcl_core.specs.weighing.Fractions.{Fraction}
use Rattle.table_flow.specs.Scale.{whole, Whole}
use Rattle.table_flow.specs.Tables.{peak_of}
use Rattle.mass_fold.specs.declared.table.TheConstants.{MOST_STATES}
use Rattle.exact_fold.specs.Refused.{HasNoLoop, HasLoops}
use Rattle.bits_fold.specs.Refused.{bits_width, ReadsBeyond}
use Rattle.bits_fold.specs.declared.error.BitsError.{BitsError}
use Rattle.bits_fold.specs.declared.error.BitsError.TheVariants.{TooWide, TooManyStates, NotFound, OutOfMemory}

abbrev pub RefusedAsWritten : SourceProgram → BitsError → Type 0
RefusedAsWritten p TooWide = (HasNoLoop p → Overfills (bits_width p 1)) × (HasLoops p → ReadsBeyond p)
RefusedAsWritten p TooManyStates = (HasNoLoop p → MOST_STATES < peak_of p 1 None) × (HasLoops p → ReadsBeyond p)
RefusedAsWritten p NotFound = (HasNoLoop p → ⊥) × (HasLoops p → ReadsBeyond p)
RefusedAsWritten p OutOfMemory = Unit {0}

-- why its bits at n turns are refused
abbrev pub RefusedAt : SourceProgram → ℕ → BitsError → Type 0
RefusedAt p n TooWide = Overfills (bits_width p n)
RefusedAt p n TooManyStates = MOST_STATES < peak_of p n None
RefusedAt p n NotFound = ⊥
RefusedAt p n OutOfMemory = Unit {0}

-- a round reads so many bits and fails with this weight: all rounds do not fit only where one bit and those of a round are too many
-- parts, at each scale at which both are whole
abbrev pub RoundsBlame : Fraction → Fraction → Type 0
RoundsBlame read failed = (N : ℕ) → 0 < N → Whole N read → Whole N failed → Overfills (N + whole N read)
