use Rattle.std.proofs.Common.{◌<◌, sym, subst, arith}
use Rattle.exact_fold.specs.inner.Settled.{AreAbove}
use Rattle.exact_fold.proofs.turning.above.Goals as goal

pub loop-weight-init : goal.loop-weight-init
loop-weight-init c = record { next = tt; finite = tt; so_far = λ h. subst AreAbove c.into_iter-weight-iterator.ensures.into_iter_gives.0 h }

pub loop-weight-preserved : goal.loop-weight-preserved
loop-weight-preserved c =
    let above_zero : 0 < c.in-Some.weight.now.0 = omega (arith, c.if-num-eq0.false, c.num.ensures.value) in
    let positive : 0 < c.in-Some.weight.now.1 = omega (arith, c.num.ensures.lowest.positive) in
    record { next = tt; finite = tt; so_far = λ h. c.loop-weight.invariant.so_far (subst AreAbove (sym c.in-Some.ensures.steps) (above_zero, positive, h)) }

pub returns : goal.returns
returns c = λ e. c.loop-weight.invariant.so_far (subst AreAbove (sym c.in-None.ensures.steps.0) tt)
