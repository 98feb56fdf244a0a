use Rattle.bits_law.specs.Rounds.{expected_rounds}
use Rattle.bits_law.proofs.RoundsLaw.{rounds_some}
use Rattle.bits_law.proofs.OneFraction.{one_fraction}
use Rattle.bits_law.proofs.expected_rounds_are_one_fraction.Goals as goal

pub returns : goal.returns
returns c = λ p rounds other ok h g. one_fraction (expected_rounds p) (rounds_some p ok) rounds other h g
