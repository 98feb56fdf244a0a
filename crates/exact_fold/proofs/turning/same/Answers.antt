use Rattle.std.proofs.Common.{sym, ◌∙◌}
use Rattle.exact_fold.proofs.Turns.{none_there, side_by_side}
use Rattle.exact_fold.proofs.turning.same.Goals as goal

pub loop-state-init : goal.loop-state-init
loop-state-init c = record { next = tt; finite = tt; so_far = λ h. sym c.into_iter-state-iterator.ensures.into_iter_gives.0 ∙ h ∙ c.iter-others.ensures.rest }

pub loop-state-preserved : goal.loop-state-preserved
loop-state-preserved c = record {
  next = tt;
  finite = tt;
  so_far = side_by_side _ _ _ _ _ _ c.in-Some.state.now c.in-Some-next.other.now c.in-Some.weight.now c.in-Some-next.other_weight.now c.in-Some.ensures.steps c.in-Some-next.ensures.steps (c.same_state.ensures c.if-not-same_state.false) (c.same_weight.ensures c.if-not-same_weight.false) c.loop-state.invariant.so_far;
}

pub returns : goal.returns
returns c = λ e.
    let ended = none_there c.next-2.result c.is_none.result _ _ c.is_none.ensures e c.next-2.ensures.steps in
    c.loop-state.invariant.so_far (c.in-None.ensures.steps.0 ∙ sym ended.0)
