use Rattle.library_user.proofs.LowBits.{without_first}
use Rattle.library_user.proofs.word_bits.WordBitsBits.take.Goals as goal

pub returns-clause-bits : goal.returns-clause-bits
returns-clause-bits c file = without_first c.args.count c.args.self.now.count c.args.self.now.word c.requires
