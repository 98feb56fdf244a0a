use Rattle.std.proofs.Common.{refl, ap, subst, [], ◌∷◌, ◌∙◌}
use Rattle.gcl_core.specs.declared.answers.Limit.TheVariants.{Turns}
use Rattle.gcl_core.specs.meaning.Blocks.{limit}
use Rattle.gcl_core.specs.meaning.Views.{expression_of}
use Rattle.scaled_law.specs.Pairs.{put_pairs}
use Rattle.scaled_fold.specs.inner.Ended.{EndsWith}
use Rattle.scaled_fold.proofs.Following.{out_follows}
use Rattle.scaled_fold.proofs.walk.Walk.out_of_turns.Goals as goal

pub returns : goal.returns
returns c =
    let J = c.in_ok-first.second.states.entries in
    let s = c.in_ok-first.ensures in
    let u = subst (λ w. EndsWith c.in_ok-first.ended ((limit Turns, w) ∷ []) c.in_ok-ended.ended) c.in_ok-all_of.ensures c.in_ok-ended.ensures in
    out_follows c.args.self _ (expression_of c.args.e.now) refl (c.in_ok-merge.ensures.vars ∙ c.taken-before.ensures.vars.0 ∙ c.args.self.sized) c.in_ok-first.first.states.entries J s.first s.second
    c.in_ok-first.ended (c.in_ok-merge.ensures.ok ∙ ap (λ b. put_pairs b J) c.taken-before.ensures.first) c.taken-before.ensures.rest s.stopped u
