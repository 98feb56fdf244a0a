use Rattle.weighted_roll.proofs.Behind.{stays_behind}
use Rattle.weighted_roll.proofs.drawn.draws_by_attempts_stay_behind.Goals as goal

pub returns : goal.returns
returns c ends r ws up are e f = stays_behind ends r ws (c.draw_weighs.ensures ends r up) are e f
