use Rattle.std.proofs.Common.{refl, ap, ◌∙◌}
use Rattle.scaled_law.specs.Pairs.{put_pairs}
use Rattle.scaled_fold.proofs.Following.{taken_back_follows}
use Rattle.scaled_fold.proofs.walk.Walk.taken_back.Goals as goal

pub returns : goal.returns
returns c =
    taken_back_follows c.args.self _ (c.in_ok-merge.ensures.ok ∙ ap (λ b. put_pairs b c.args.self.next.states.entries) c.taken-next.ensures.first) c.taken-next.ensures.rest refl refl
    (c.in_ok-merge.ensures.vars ∙ c.taken-next.ensures.vars.0 ∙ c.args.self.sized)
