use Rattle.std.proofs.Common.{◌≡◌, ◌-◌, ◌*◌, ◌≤◌, ◌++◌, Bool, List, length}
use Rattle.gcl_core.specs.declared.answers.Answer.{Answer}
use Rattle.report_text.specs.declared.line.TheConstants.{LINE_BYTES}
use Rattle.sampler_run.specs.Held.{IsRestOf, set_back}
use Rattle.stream_lines.specs.Lines.{lines_over}
use Rattle.stream_lines.specs.inner.Begun.{blocks_begun}
use Rattle.zar_io.specs.Visits.{blocks_told}
use Rattle.stream_lines.proofs.filling.fill.Given as goal

abbrev pub invariant-loop-at : goal.invariant-loop-at
invariant-loop-at g l = (l.first ≤ l.at) × (l.at ≤ l.end)
    × (set_back l.state ≡ set_back l.initial.state)
    × (length l.batch ≤ LINE_BYTES * (l.at - l.first))
    × ((run : List Bool → Answer) → IsRestOf (set_back l.initial.state) run → l.batch ≡ lines_over run l.job.range.now.seed l.job.range.now.budget l.first l.at)
    × (blocks_told l.visits ≡ blocks_told l.initial.visits ++ blocks_begun l.job.range.now.from l.first l.at)

abbrev pub decreases-loop-at : goal.decreases-loop-at
decreases-loop-at g l = l.end - l.at
