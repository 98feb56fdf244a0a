use Rattle.bounds_law.proofs.BoundsLaw.{bounds_hold}
use Rattle.exact_fold.proofs.MassLimits.{lie_within}
use Rattle.exact_fold.proofs.laws.exact_masses_lie_within_bounds.Goals as goal

pub returns : goal.returns
returns c = λ p rows endless ok e. lie_within p rows endless ok e (λ n n' le below. bounds_hold p n n' ok le below)
