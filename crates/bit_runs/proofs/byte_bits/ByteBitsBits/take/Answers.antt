use Rattle.std.proofs.Common.{[], drop, false}
use Rattle.zar_io.proofs.FileBitsLemmas.{bits_left-take}
use Rattle.bit_runs.proofs.byte_bits.ByteBitsBits.take.Goals as goal

pub returns-clause-bits : goal.returns-clause-bits
returns-clause-bits c = λ file. let s = c.args.self.now in bits_left-take false c.args.count s.waiting s.byte [] (drop s.next s.bytes.now) c.requires
