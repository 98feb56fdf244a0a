use Rattle.exact_fold.proofs.StringLimits.{strings_tend}
use Rattle.exact_fold.proofs.laws.strings_tend_to_exact_masses.Goals as goal

pub returns : goal.returns
returns c = strings_tend
