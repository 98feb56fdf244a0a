-- What stands in two slices: how runs end on the streams of a seed that follow one another.
use Rattle.std.specs.Prelude.{◌≡◌, ℕ, ◌+◌, ◌<◌, pos, ℤ, Bool, List, length, get_or}
use Rattle.gcl_core.specs.declared.answers.Answer.{Answer}
use Rattle.gcl_core.specs.declared.answers.Limits.{Limits}
use Rattle.gcl_core.specs.meaning.Runs.{run_on}
use Rattle.gcl_core.specs.meaning.Syntax.{SourceProgram}
use Rattle.zar_io.specs.StreamBits.{stream_bits}
use Rattle.stream_runs.specs.Ends.{end_of, value_of}

-- at place k the end of the run on the first bits of the stream first + k
pub record AreEnds (run : List Bool → Answer) (seed first budget : ℕ) (values : List ℤ) (ends : List ℕ) : Type 0 where
  pub alike : length ends ≡ length values
  pub values_are : (k : ℕ) → k < length values → get_or values k (pos 0) ≡ value_of (run (stream_bits seed (first + k) budget))
  pub ends_are : (k : ℕ) → k < length values → get_or ends k 0 ≡ end_of (run (stream_bits seed (first + k) budget))

-- the same of the runs of a program under these limits
abbrev pub AreDrawn : SourceProgram → Limits → ℕ → ℕ → ℕ → List ℤ → List ℕ → Type 0
AreDrawn p l seed first budget values ends = AreEnds (run_on p l) seed first budget values ends
