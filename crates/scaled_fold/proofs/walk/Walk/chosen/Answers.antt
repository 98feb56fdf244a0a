use Rattle.std.proofs.Common.{[], ◌∷◌, refl, subst}
use Rattle.gcl_core.specs.declared.answers.Limit.TheVariants.{Attempts}
use Rattle.gcl_core.specs.meaning.Blocks.{limit}
use Rattle.scaled_fold.specs.inner.Ended.{EndsWith}
use Rattle.scaled_fold.proofs.Following.{chosen_follows}
use Rattle.scaled_fold.proofs.walk.Walk.chosen.Goals as goal

pub returns : goal.returns
returns c =
    let odds = c.of-odds.result in
    let ends = subst (λ w. EndsWith c.args.self.ended ((limit Attempts, w) ∷ []) c.in_ok-ended.ended) c.in_ok-undecided.ensures c.in_ok-ended.ensures in
    chosen_follows c.args.self _ refl c.in_ok-side.ensures.vars _ c.in_ok-topped.ensures.ok c.args.attempts c.args.p odds.bound odds.attempts c.of-odds.ensures.bound c.of-odds.ensures.attempts
    c.in_ok-side.ensures.next c.in_ok-second.ensures.next ends
