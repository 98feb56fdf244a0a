use Rattle.cost_law.specs.ExpectedBits.{expected_bits}
use Rattle.bits_law.proofs.BitsLaw.{expected_some}
use Rattle.bits_law.proofs.OneFraction.{one_fraction}
use Rattle.bits_law.proofs.expected_bits_are_one_fraction.Goals as goal

pub returns : goal.returns
returns c = λ p bits other ok h g. one_fraction (expected_bits p) (expected_some p ok) bits other h g
