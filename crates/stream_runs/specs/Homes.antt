-- Where runs over streams begin.
use Rattle.std.specs.Prelude.{◌≡◌, []}
use Rattle.sampler_run.specs.Held.{Held, StandsAfter, set_back}

-- home stands before the first bit of its run, and the state is of the same run
pub record IsHome (home state : Held) : Type 0 where
  pub stands : StandsAfter [] (set_back home) home
  pub same : set_back state ≡ set_back home
