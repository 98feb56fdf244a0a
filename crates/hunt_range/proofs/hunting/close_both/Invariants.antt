use Rattle.std.proofs.Common.{length}
use Rattle.hunt_range.specs.inner.Hunters.{HasHuntedRuns}
use Rattle.hunt_range.proofs.Pairs.{Parting}
use Rattle.hunt_range.proofs.hunting.close_both.Given as goal

abbrev pub invariant-loop-hunter : goal.invariant-loop-hunter
invariant-loop-hunter g l = Parting l.fn.board l.fn.least (HasHuntedRuns l.job.sampler.now l.job.limits.now l.job.range.now l.want) l.passes.items l.bids.items l.hunters.items

abbrev pub decreases-loop-hunter : goal.decreases-loop-hunter
decreases-loop-hunter g l = length l.hunters.items
