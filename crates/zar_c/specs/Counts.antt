-- What a call is asked that counts or seeks runs over a range of streams, or counts those on all strings of one length.
use Rattle.std.specs.Prelude.{ℕ, ◌-◌, ◌≤◌}
use Rattle.audit_walk.specs.declared.auditing.TheConstants.{MOST_DEPTH}
use Rattle.gcl_core.specs.meaning.LimitRange.{InRange}
use Rattle.stream_runs.specs.declared.range.SeedRange.{SeedRange}
use Rattle.stream_runs.specs.declared.range.TheConstants.{MOST_STREAMS}
use Rattle.zar_c.specs.Draws.{limits_of}
use Rattle.zar_c.specs.Masses.{limits_by}
use Rattle.zar_c.specs.declared.asking.ZarLimits.{ZarLimits}
use Rattle.zar_io.specs.declared.stream_bits.TheConstants.{MOST_BUDGET}

-- the streams of a range, for one worker
abbrev pub range_by : ℕ → ℕ → ℕ → ℕ → SeedRange
range_by seed from to budget = record { seed = seed; from = from; to = to; budget = budget; workers = 1 }

-- the limits and the budget are in range, the ends of the range in order, and there are not too many streams
pub record CanCount (l : ZarLimits) (from to : ℕ) : Type 0 where
  pub limits : InRange (limits_of l)
  pub ordered : from ≤ to
  pub few : to - from ≤ MOST_STREAMS
  pub budget_in : l.budget ≤ MOST_BUDGET

-- the strings are not too long, and the limits are in range
pub record CanAudit (depth turns attempts rounds : ℕ) : Type 0 where
  pub depth_in : depth ≤ MOST_DEPTH
  pub limits : InRange (limits_by turns attempts rounds)
