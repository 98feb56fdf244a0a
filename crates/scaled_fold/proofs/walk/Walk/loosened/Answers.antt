use Rattle.std.proofs.Common.{refl, ap, ◌∙◌}
use Rattle.scaled_law.specs.Pairs.{added}
use Rattle.scaled_fold.proofs.Following.{loosened_follows}
use Rattle.scaled_fold.proofs.walk.Walk.loosened.Goals as goal

pub returns : goal.returns
returns c =
    loosened_follows c.args.self _ c.taken-next.ensures.first c.taken-next.ensures.rest refl (c.in_ok-loose.ensures ∙ ap (added c.args.self.loose) c.in_ok-all_of.ensures) refl (c.taken-next.ensures.vars.0 ∙ c.args.self.sized)
