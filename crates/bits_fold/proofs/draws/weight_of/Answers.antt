use Rattle.std.proofs.Common.{◌∙◌, sym}
use Rattle.bits_fold.proofs.DrawSums.{any, sums_start, sums_next, weight_adds, weight_end}
use Rattle.bits_fold.proofs.draws.weight_of.Goals as goal

pub loop-f-init : goal.loop-f-init
loop-f-init c = record { next = tt; finite = tt; so_far = sums_start any c.args.table.now.states.entries _ c.of-sum.result c.into_iter-f-iterator.ensures.into_iter_gives.0 c.of-sum.ensures.equal c.of-sum.ensures.lowest.positive }

pub loop-f-preserved : goal.loop-f-preserved
loop-f-preserved c = record {
  next = tt;
  finite = tt;
  so_far = sums_next any c.args.table.now.states.entries _ _ c.in-Some.field-0-0.now c.in-Some.f.now c.loop-f.sum c.in-Some.f.now c.in_ok-sum.sum c.in-Some.ensures.steps (weight_adds c.in-Some.field-0-0.now c.in-Some.f.now)
      (sym c.add.ensures ∙ c.in_ok-sum.was) c.loop-f.invariant.so_far;
}

pub returns : goal.returns
returns c = weight_end c.args.table.now.states.entries _ c.loop-f.sum c.in-None.ensures.steps.0 c.loop-f.invariant.so_far
