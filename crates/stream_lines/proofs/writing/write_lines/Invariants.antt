use Rattle.std.proofs.Common.{◌≡◌, ◌-◌, ◌≤◌, ◌++◌, Bool, List, All, length}
use Rattle.gcl_core.specs.declared.answers.Answer.{Answer}
use Rattle.sampler_run.specs.Held.{IsRestOf, set_back}
use Rattle.zar_io.specs.Trace.{failures, written}
use Rattle.stream_lines.specs.declared.batch.TheConstants.{STREAMS_OF_A_BATCH}
use Rattle.stream_lines.specs.Lines.{lines_over}
use Rattle.stream_lines.specs.inner.Rounds.{IsWorkerOf}
use Rattle.stream_lines.proofs.writing.write_lines.Given as goal

abbrev pub invariant-loop-at : goal.invariant-loop-at
invariant-loop-at g l = (l.job.range.now.from ≤ l.at) × (l.at ≤ l.job.range.now.to)
    × (1 ≤ l.size) × (l.size ≤ STREAMS_OF_A_BATCH)
    × All (IsWorkerOf l.home) l.workers
    × (length l.workers ≡ length l.initial.workers)
    × (failures (g.S.Sink.answered l.sink) ≡ failures (g.S.Sink.answered l.initial.sink))
    × ((run : List Bool → Answer) → IsRestOf (set_back l.home) run → written (g.S.Sink.answered l.sink) ≡ written (g.S.Sink.answered l.initial.sink) ++ lines_over run l.job.range.now.seed l.job.range.now.budget l.job.range.now.from l.at)

abbrev pub decreases-loop-at : goal.decreases-loop-at
decreases-loop-at g l = l.job.range.now.to - l.at
