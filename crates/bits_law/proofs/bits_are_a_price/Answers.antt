use Rattle.std.proofs.Common.{refl}
use Rattle.bits_law.proofs.bits_are_a_price.Goals as goal

pub returns : goal.returns
returns c = λ p l. refl
