use Rattle.stream_runs.proofs.Lent.{all_zip_calls}
use Rattle.tally_range.specs.inner.Worked.{IsWorked}
use Rattle.tally_range.proofs.working.run_workers.Goals as goal

-- each entry, as its worker left it
pub returns : goal.returns
returns g c = all_zip_calls (IsWorked c.args.job.now.sampler.now c.args.job.now.limits.now c.args.job.now.range.now) c.args.entries.now c.for_each_mut.new.s c.for_each_mut.auto.s
    (λ i d lt. let at = (c.for_each_mut.ensures i d lt).1 in (at.argument.now, at.after_call.now, at.argument_is, at.left, at.call))
