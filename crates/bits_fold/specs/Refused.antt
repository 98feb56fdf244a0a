-- Why it is not said what is read on average where nothing is limited. This project's own rule.
use Rattle.std.specs.Prelude.{◌⊎◌, ℕ, ◌+◌, ◌*◌, ◌<◌, List, map, None}
use Rattle.numbers.specs.Fraction.{Overfills}
use Rattle.gcl_core.specs.meaning.Draw.{last_end}
use Rattle.gcl_core.specs.meaning.Syntax.{SourceProgram}
use Rattle.gcl_core.specs.weighing.Fractions.{Fraction}
use Rattle.gcl_core.specs.weighing.WeightedEnds.{class_weight}
use Rattle.table_flow.specs.Scale.{whole}
use Rattle.table_flow.specs.Tables.{peak_of, ReachedDraws, tables_of}
use Rattle.table_flow.specs.Width.{round_width, common_denominator}
use Rattle.mass_fold.specs.declared.table.TheConstants.{MOST_STATES}
use Rattle.forgetting.specs.Forgetful.{forgetful_of}
use Rattle.exact_fold.specs.Refused.{HasNoLoop, HasLoops, GoesBeyond}
use Rattle.exact_fold.specs.declared.program.TheConstants.{TURNS_TRIED}
use Rattle.bits_law.specs.Draws.{bits_of_draws}
use Rattle.bits_fold.specs.declared.error.BitsError.{BitsError}
use Rattle.bits_fold.specs.declared.error.BitsError.TheVariants.{TooWide, TooManyStates, NotFound, OutOfMemory}

-- what one number of each draw weighs
abbrev pub number_weights : ReachedDraws → List Fraction
number_weights D = map (λ e. class_weight (last_end e.1) None 1) D

-- at a limit of n turns: the common denominator of a round, times that of the numbers of the draws that it reaches
abbrev pub bit_parts : SourceProgram → ℕ → ℕ
bit_parts p n = round_width p n None * common_denominator (number_weights (tables_of p n None).reached)

-- so many of these parts are one bit, and what a round reads
abbrev pub bits_width : SourceProgram → ℕ → ℕ
bits_width p n = bit_parts p n + whole (bit_parts p n) (bits_of_draws (tables_of p n None).reached)

-- At 256 turns the width of the bits is 2^128 or more, or masses are refused, or some run has not ended.
abbrev pub ReadsBeyond : SourceProgram → Type 0
ReadsBeyond p = Overfills (bits_width p TURNS_TRIED) ⊎ GoesBeyond p

-- Without a loop, at a limit of one turn: the width of the bits of the forgetful program is 2^128 or more, or some point of it is reached
-- with too many states; what is not found is a loop's. With a loop, at 256 turns: the forgetful program goes beyond.
abbrev pub BitsRefused : SourceProgram → BitsError → Type 0
BitsRefused p TooWide = (HasNoLoop p → Overfills (bits_width (forgetful_of p) 1)) × (HasLoops p → ReadsBeyond (forgetful_of p))
BitsRefused p TooManyStates = (HasNoLoop p → MOST_STATES < peak_of (forgetful_of p) 1 None) × (HasLoops p → ReadsBeyond (forgetful_of p))
BitsRefused p NotFound = (HasNoLoop p → ⊥) × (HasLoops p → ReadsBeyond (forgetful_of p))
BitsRefused p OutOfMemory = Unit {0}
