-- What the runs of a sampler leave on a source of bits: what the program's run leaves by its definition.
use Rattle.std.specs.Prelude.{◌≡◌, Bool, List, []}
use Rattle.gcl_core.specs.declared.answers.Answer.{Answer}
use Rattle.gcl_core.specs.declared.answers.Answer.TheVariants.{Ended, MoreBits}
use Rattle.gcl_core.specs.declared.answers.Limits.{Limits}
use Rattle.gcl_core.specs.declared.answers.Outcome.{Outcome}
use Rattle.gcl_core.specs.meaning.Reading.{Reading, gives, more_bits}
use Rattle.gcl_core.specs.meaning.Runs.{reads}
use Rattle.gcl_core.specs.meaning.Syntax.{SourceProgram}
use Rattle.sampler_code.specs.Assembled.{Assembled}
use Rattle.sampler_code.specs.Running.{Reached}
use Rattle.sampler_run.specs.Held.{Held, StandsAfter, run_begun}
use Rattle.sampler_run.specs.Sampled.{TookTo}
use Rattle.sampler_run.specs.Telling.{UsedIs}

-- what is read is the outcome that was answered, with the bits that are left; or it needs more, and none is left
abbrev pub HasRead : Answer → List Bool → Reading Outcome → Type 0
HasRead (Ended x n) left r = r ≡ gives x left
HasRead (MoreBits n) left r = (r ≡ more_bits) × (left ≡ [])

-- A run before its first bit has read none. What took its bits from there has read what the program's run reads.
pub record LeavesTheRest (p : SourceProgram) (l : Limits) (s : Assembled) : Type 0 where
  pub begins : (home : Held) → StandsAfter [] (run_begun s l) home → UsedIs home 0
  pub reads : (home : Held) (bits left : List Bool) (a : Reached) → StandsAfter [] (run_begun s l) home
      → TookTo home 0 bits left a → HasRead a.answer left (reads p l bits)
