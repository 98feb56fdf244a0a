use Rattle.narrow_fractions.proofs.Euclid.{one_fraction}
use Rattle.narrow_fractions.proofs.fraction.one_fraction_has_a_remainder.Goals as goal

pub returns : goal.returns
returns c = one_fraction
