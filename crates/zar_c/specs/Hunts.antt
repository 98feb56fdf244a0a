-- What a call for a hunt is asked, and what it tells: the least stream of a range whose run ends as is wanted.
use Rattle.std.specs.Prelude.{◌≡◌, ℕ, ◌==◌, ◌≤◌, ℤ, true, false, Option, Some, None, if◌then◌else◌}
use Rattle.gcl_core.specs.declared.answers.Fault.TheVariants.{Overflow, ZeroDivisor, BadBound}
use Rattle.gcl_core.specs.declared.answers.Limit.TheVariants.{Turns, Attempts, Rounds}
use Rattle.gcl_core.specs.declared.answers.Limits.{Limits}
use Rattle.gcl_core.specs.declared.answers.Outcome.TheVariants.{Value, Fault, Limit}
use Rattle.gcl_core.specs.declared.answers.TallyKey.{TallyKey}
use Rattle.gcl_core.specs.declared.answers.TallyKey.TheVariants.{Outcome, MoreBits}
use Rattle.gcl_core.specs.meaning.Runs.{run_on}
use Rattle.gcl_core.specs.meaning.Syntax.{SourceProgram}
use Rattle.hunt_range.specs.Sought.{LeastWanted, sought_of}
use Rattle.stream_runs.specs.declared.ends.TheConstants as ends
use Rattle.stream_runs.specs.declared.range.SeedRange.{SeedRange}
use Rattle.zar_c.specs.Counts.{CanCount}
use Rattle.zar_c.specs.declared.asking.ZarLimits.{ZarLimits}
use Rattle.zar_c.specs.declared.hunts.ZarFound.{ZarFound}

-- the runs of the range can be counted, and a run may end so
pub record CanHunt (l : ZarLimits) (from to end : ℕ) : Type 0 where
  pub counted : CanCount l from to
  pub end_in : end ≤ ends.MORE_BITS

-- the way to end of this number, with this value where it has one
abbrev pub key_by : ℤ → ℕ → TallyKey
key_by value end =
    if end == ends.VALUE then Outcome (Value value)
    else if end == ends.OVERFLOW then Outcome (Fault Overflow)
    else if end == ends.ZERO_DIVISOR then Outcome (Fault ZeroDivisor)
    else if end == ends.BAD_BOUND then Outcome (Fault BadBound)
    else if end == ends.TURNS then Outcome (Limit Turns)
    else if end == ends.ATTEMPTS then Outcome (Limit Attempts)
    else if end == ends.ROUNDS then Outcome (Limit Rounds)
    else MoreBits

-- a stream, or that there is none
abbrev pub found_by : Option ℕ → ZarFound
found_by None = record { stream = 0; found = false }
found_by (Some stream) = record { stream = stream; found = true }

-- what is found is the least stream of the range on which the run of the program ends so, if there is one
pub record IsFound (p : SourceProgram) (l : Limits) (range : SeedRange) (want : TallyKey) (f : ZarFound) : Type 0 where
  pub stream : Option ℕ
  pub least : LeastWanted (sought_of (run_on p l) range want) stream
  pub told : f ≡ found_by stream
