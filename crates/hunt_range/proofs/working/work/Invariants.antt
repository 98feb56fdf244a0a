use Rattle.std.proofs.Common.{◌≡◌, ◌-◌}
use Rattle.passes.specs.Numbers.{top}
use Rattle.claim_board.specs.Board.{blocks_of, dealt_to}
use Rattle.sampler_run.specs.Held.{run_begun, set_back}
use Rattle.hunt_range.proofs.Searching.{Hunting, HasSearched}
use Rattle.hunt_range.proofs.working.work.Given as goal

abbrev pub invariant-loop-block : goal.invariant-loop-block
invariant-loop-block g l = Hunting l.board l.least (HasSearched l.job.sampler.now l.job.limits.now l.job.range.now l.want) l.initial.hunter l.hunter × (set_back l.state ≡ run_begun l.job.sampler.now l.job.limits.now)

-- each block is above those before it
abbrev pub decreases-loop-block : goal.decreases-loop-block
decreases-loop-block g l = blocks_of l.board - top (dealt_to l.hunter.pass)
