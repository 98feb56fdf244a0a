use Rattle.std.proofs.Common.{sym, subst, ◌∙◌}
use Rattle.exact_fold.specs.inner.Turning.{AllInside}
use Rattle.wide_fold.proofs.turning.all_stand.Goals as goal

pub loop-state-init : goal.loop-state-init
loop-state-init c = record { next = tt; finite = tt; so_far = λ h. subst (AllInside c.args.closed.now.states.entries) c.into_iter-state-iterator.ensures.into_iter_gives.0 h }

pub loop-state-preserved : goal.loop-state-preserved
loop-state-preserved c =
    record { next = tt; finite = tt; so_far = λ h. c.loop-state.invariant.so_far (subst (AllInside c.args.closed.now.states.entries) (sym c.in-Some.ensures.steps) (sym c.stands.ensures ∙ c.if-not-stands.false, h)) }

pub returns : goal.returns
returns c = λ e. c.loop-state.invariant.so_far (subst (AllInside c.args.closed.now.states.entries) (sym c.in-None.ensures.steps.0) tt)
