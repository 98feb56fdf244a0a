use Rattle.bits_law.proofs.BitsLaw.{expected_rise}
use Rattle.bits_law.proofs.expected_bits_rise_with_limits.Goals as goal

pub returns : goal.returns
returns c = λ p l m ok h. expected_rise p ok l m h
