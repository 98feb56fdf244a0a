use Rattle.exact_fold.proofs.MassLimits.{are_limits}
use Rattle.exact_fold.proofs.laws.exact_masses_are_limits.Goals as goal

pub returns : goal.returns
returns c = are_limits
