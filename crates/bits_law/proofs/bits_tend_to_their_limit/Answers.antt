use Rattle.bits_law.proofs.BitsLaw.{are_expected}
use Rattle.bits_law.proofs.bits_tend_to_their_limit.Goals as goal

pub returns : goal.returns
returns c = λ p J read f ok o s passes. are_expected p ok J read o f s passes
