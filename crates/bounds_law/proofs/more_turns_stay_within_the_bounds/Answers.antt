use Rattle.bounds_law.proofs.BoundsLaw.{bounds_hold}
use Rattle.bounds_law.proofs.more_turns_stay_within_the_bounds.Goals as goal

pub returns : goal.returns
returns c = bounds_hold
