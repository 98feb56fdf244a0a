use Rattle.exact_fold.proofs.Sums.{sum_next, sum_end}
use Rattle.wide_masses.proofs.Quotients.{adds}
use Rattle.wide_masses.proofs.rest.total.Goals as goal

pub loop-f-preserved : goal.loop-f-preserved
loop-f-preserved c = record {
  next = tt;
  finite = tt;
  so_far = sum_next c.args.rows.now.entries _ _ c.loop-f.sum _ c.in-Some.f.now c.in-Some.field-0-0.now c.in-Some.ensures.steps (adds _ _ _ c.in_ok-sum-2.ensures.0) c.loop-f.invariant.so_far;
}

pub returns : goal.returns
returns c = sum_end c.args.rows.now.entries _ c.loop-f.sum c.in-None.ensures.steps.0 c.loop-f.invariant.so_far
