use Rattle.stream_runs.proofs.Lent.{all_zip_calls}
use Rattle.hunt_range.specs.inner.Hunters.{HasHuntedRuns, HasWorked}
use Rattle.hunt_range.proofs.working.run_all.Goals as goal

-- each hunter, as its work left it
pub returns : goal.returns
returns g c = all_zip_calls (HasWorked (HasHuntedRuns c.args.job.now.sampler.now c.args.job.now.limits.now c.args.job.now.range.now c.args.want.now)) c.args.hunters.now c.for_each_mut.new.s c.for_each_mut.auto.s
    (λ i d lt. let at = (c.for_each_mut.ensures i d lt).1 in (at.argument.now, at.after_call.now, at.argument_is, at.left, at.call))
