use Rattle.bits_law.proofs.RoundsLaw.{rounds_rise}
use Rattle.bits_law.proofs.expected_rounds_rise_with_limits.Goals as goal

pub returns : goal.returns
returns c = λ p l m ok h. rounds_rise p ok l m h
