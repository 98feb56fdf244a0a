use Rattle.std.proofs.Common.{◌≡◌, ℕ, ◌+◌, ◌<◌, Bool, List, get_or, length, pos}
use Rattle.gcl_core.specs.declared.answers.Answer.{Answer}
use Rattle.sampler_run.specs.Held.{IsRestOf, set_back}
use Rattle.zar_io.specs.StreamBits.{stream_bits}
use Rattle.stream_runs.specs.Ends.{end_of, value_of}
use Rattle.stream_runs.proofs.drawing.fill.Given as goal

abbrev pub invariant-loop-k : goal.invariant-loop-k
invariant-loop-k l = (length l.ends ≡ length l.values)
    × (set_back l.state ≡ set_back l.initial.state)
    × ((run : List Bool → Answer) → IsRestOf (set_back l.initial.state) run → (k : ℕ) → k < l.k →
    get_or l.values k (pos 0) ≡ value_of (run (stream_bits l.streams.seed (l.streams.first + k) l.streams.budget)))
    × ((run : List Bool → Answer) → IsRestOf (set_back l.initial.state) run → (k : ℕ) → k < l.k →
    get_or l.ends k 0 ≡ end_of (run (stream_bits l.streams.seed (l.streams.first + k) l.streams.budget)))
