use Rattle.exact_fold.proofs.Sums.{sum_start, sum_next, sum_end}
use Rattle.exact_fold.proofs.program.total.Goals as goal

pub loop-f-init : goal.loop-f-init
loop-f-init c = record { next = tt; finite = tt; so_far = sum_start c.args.rows.now.entries _ c.of-sum.result c.into_iter-f-iterator.ensures.into_iter_gives.0 c.of-sum.ensures.equal c.of-sum.ensures.lowest.positive }

pub loop-f-preserved : goal.loop-f-preserved
loop-f-preserved c = record { next = tt; finite = tt; so_far = sum_next c.args.rows.now.entries _ _ c.loop-f.sum c.in-Some-add.next c.in-Some.f.now c.in-Some.field-0-0.now c.in-Some.ensures.steps c.in-Some-add.ensures c.loop-f.invariant.so_far }

pub returns : goal.returns
returns c = sum_end c.args.rows.now.entries _ c.loop-f.sum c.in-None.ensures.steps.0 c.loop-f.invariant.so_far
