-- What a sink took of lines, in one word.
use Rattle.std.proofs.Common.{◌≡◌, ◌<◌, ◌++◌, ℕ, Bool, List, Result, Ok, Err, OnOk, OnErr, is_err, length, take}
use Rattle.gcl_core.specs.declared.answers.Answer.{Answer}
use Rattle.sampler_run.specs.Held.{Held, IsRestOf}
use Rattle.stream_lines.specs.Lines.{lines_of_range}
use Rattle.stream_runs.specs.declared.range.SeedRange.{SeedRange}
use Rattle.zar_io.specs.declared.trace.Event.{Event}
use Rattle.zar_io.specs.Trace.{Fails, written}
use Rattle.zar_io.specs.Written.{IsWritten}

pub lines_taken : {A E : Type 0} (run : List Bool → Answer) (range : SeedRange) (result : Result A E) (home : Held) (before now : List Event) → IsRestOf home run → Fails result before now
    → OnOk result ((run : List Bool → Answer) → IsRestOf home run → written now ≡ written before ++ lines_of_range run range)
    → OnErr result ((run : List Bool → Answer) → IsRestOf home run → (n : ℕ) × (n < length (lines_of_range run range)) × (written now ≡ written before ++ take n (lines_of_range run range)))
    → IsWritten (is_err result) before now (lines_of_range run range)
lines_taken run range (Ok a) home before now is fails whole front = (fails, whole run is)
lines_taken run range (Err e) home before now is fails whole front = (fails, front run is)
