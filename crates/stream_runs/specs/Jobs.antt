-- What threads can be given to run.
use Rattle.gcl_core.specs.declared.answers.Limits.{Limits}
use Rattle.gcl_core.specs.meaning.LimitRange.{InRange}
use Rattle.stream_runs.specs.declared.range.SeedRange.{SeedRange}
use Rattle.stream_runs.specs.Ranges.{IsRange}

-- the limits and the range of a job are such that its runs can be made
pub record IsReadyJob (l : Limits) (r : SeedRange) : Type 0 where
  pub limits : InRange l
  pub range : IsRange r
