use Rattle.std.proofs.Common.{[], ◌∷◌, refl, subst}
use Rattle.gcl_core.specs.declared.answers.Limit.TheVariants.{Attempts}
use Rattle.gcl_core.specs.meaning.Blocks.{limit}
use Rattle.scaled_fold.specs.inner.Ended.{EndsWith}
use Rattle.scaled_fold.proofs.Following.{arms_follow}
use Rattle.scaled_fold.proofs.walk.Walk.arms_begun.Goals as goal

pub returns : goal.returns
returns c =
    let ends = subst (λ w. EndsWith c.args.self.ended ((limit Attempts, w) ∷ []) c.in_ok-ended.ended) c.in_ok-undecided.ensures c.in_ok-ended.ensures in
    arms_follow c.args.self _ refl refl _ c.in_ok-topped.ensures.ok c.args.odds.bound c.args.odds.attempts refl c.new-none.ensures.empty ends
