use Rattle.bits_law.proofs.BitsLaw.{bits_forever}
use Rattle.bits_law.proofs.bits_that_are_read_for_ever_have_no_bound.Goals as goal

pub returns : goal.returns
returns c = λ p ok o. bits_forever p ok o
