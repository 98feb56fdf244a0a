use Rattle.narrow_fractions.proofs.Certificates.{checked_above, checked_below}
use Rattle.narrow_fractions.proofs.fraction.remainders_may_be_given.Goals as goal

pub returns-clause-above : goal.returns-clause-above
returns-clause-above c = checked_above

pub returns-clause-below : goal.returns-clause-below
returns-clause-below c = checked_below
