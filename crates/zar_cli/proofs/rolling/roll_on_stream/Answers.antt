use Rattle.std.proofs.Common.{◌∙◌, None, sym, ap}
use Rattle.dice_roll.specs.FastRoll.{fast_roll}
use Rattle.zar_cli.proofs.rolling.roll_on_stream.Goals as goal

pub returns : goal.returns
returns c = sym (c.in-Ok.ensures.answer (λ name. None) tt) ∙ ap (fast_roll c.args.labels c.args.flips) (c.new-bits.ensures.left (λ name. None))
