use Rattle.mass_fold.proofs.Weighed.{are_weighed}
use Rattle.mass_fold.proofs.laws.masses_are_weighed.Goals as goal

pub returns : goal.returns
returns c = are_weighed
