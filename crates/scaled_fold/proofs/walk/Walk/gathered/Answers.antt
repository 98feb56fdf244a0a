use Rattle.std.proofs.Common.{refl, ap, ◌∷◌, ◌∙◌}
use Rattle.scaled_law.specs.Pairs.{put_pairs}
use Rattle.scaled_law.specs.Scaled.{top, below}
use Rattle.scaled_fold.specs.inner.Stack.{stack_of}
use Rattle.scaled_fold.proofs.Following.{gathered_follows, stacked_on}
use Rattle.scaled_fold.proofs.walk.Walk.gathered.Goals as goal

pub returns : goal.returns
returns c =
    let J = c.args.self.next.states.entries in
    let on = stacked_on (stack_of c.taken-next.result.1) _ _ _ _ J c.in_ok-topped.ensures.ok c.in_ok-merge.ensures.ok c.taken-before.ensures.first c.taken-before.ensures.rest in
    gathered_follows c.args.self _ c.taken-next.ensures.first (on ∙ ap (λ ess. put_pairs (top ess) J ∷ below ess) c.taken-next.ensures.rest) refl refl (c.taken-next.ensures.vars.0 ∙ c.args.self.sized)
