use Rattle.std.proofs.Common.{◌∙◌, None, sym, ap}
use Rattle.weighted_roll.specs.WeightedRoll.{weighted_roll}
use Rattle.zar_cli.proofs.weighted.weighted_on_stream.Goals as goal

pub returns : goal.returns
returns c = sym (c.in-Ok.ensures.answer (λ name. None) tt) ∙ ap (weighted_roll c.args.weights.now c.args.flips) (c.new-bits.ensures.left (λ name. None))
