use Rattle.std.proofs.Common.{refl}
use Rattle.gcl_core.specs.meaning.Views.{expression_of}
use Rattle.scaled_fold.specs.inner.Stack.{stack_of}
use Rattle.scaled_fold.proofs.Following.{entered_follows, stacked_on}
use Rattle.scaled_fold.proofs.walk.Walk.entered.Goals as goal

pub returns : goal.returns
returns c =
    let on = stacked_on (stack_of c.args.self.aside) _ _ _ _ c.in_ok-next.second.states.entries c.in_ok-topped.ensures.ok c.in_ok-merge.ensures.ok c.taken-before.ensures.first c.taken-before.ensures.rest in
    entered_follows c.args.self _ (expression_of c.args.e.now) refl c.in_ok-next.ensures.vars.0 _ c.in_ok-next.second.states.entries c.in_ok-next.ensures.first c.in_ok-next.ensures.second refl on c.in_ok-next.ensures.stopped
