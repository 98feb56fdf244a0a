-- Ranges that can be gone through. The bounds are this project's own rule.
use Rattle.std.specs.Prelude.{ℕ, ◌-◌, ◌≤◌, ◌<◌}
use Rattle.zar_io.specs.declared.stream_bits.TheConstants.{MOST_BUDGET}
use Rattle.stream_runs.specs.declared.range.SeedRange.{SeedRange}
use Rattle.stream_runs.specs.declared.range.TheConstants.{MOST_STREAMS, MOST_WORKERS}

-- its ends in order, not too many streams, and not too many bits of each
pub record IsRange (r : SeedRange) : Type 0 where
  pub ordered : r.from ≤ r.to
  pub few : r.to - r.from ≤ MOST_STREAMS
  pub budget : r.budget ≤ MOST_BUDGET

abbrev pub IsWorkers : ℕ → Type 0
IsWorkers n = (0 < n) × (n ≤ MOST_WORKERS)
