use Rattle.std.proofs.Common.{refl}
use Rattle.zar_io.specs.FileBits.{low_bits}
use Rattle.zar_io.proofs.faulty_bits.FaultyBitsBits.peek.Goals as goal

pub returns-clause-bits : goal.returns-clause-bits
unfolding low_bits
returns-clause-bits c = (_, refl)
