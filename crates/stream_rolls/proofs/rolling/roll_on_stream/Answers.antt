use Rattle.std.proofs.Common.{◌∙◌, None, sym, ap}
use Rattle.weighted_roll.specs.WeightedRoll.{weighted_roll}
use Rattle.stream_rolls.proofs.rolling.roll_on_stream.Goals as goal

pub returns-clause-answer : goal.returns-clause-answer
returns-clause-answer c = sym (c.in-Ok.ensures.answer (λ name. None) tt) ∙ ap (weighted_roll c.args.loaded.now c.args.flips) (c.begin.ensures.left (λ name. None))
