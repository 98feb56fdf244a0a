use Rattle.std.proofs.Common.{take}
use Rattle.zar_io.proofs.FileBitsLemmas.{bits_left-fill}
use Rattle.zar_io.proofs.TraceLemmas.{left_read}
use Rattle.zar_io.proofs.file_bits.FileBits.fill.Goals as goal

pub returns-in-Ok-clause-left : goal.returns-in-Ok-clause-left
returns-in-Ok-clause-left g c file agrees =
    let s = c.args.self.now in
    bits_left-fill s.done s.waiting s.current c.in-Ok.n s.start s.end s.buffer c.read.new.buf _ _ c.requires.going c.requires.used_up_byte c.requires.used_up
    (left_read file (take c.in-Ok.n c.read.new.buf) _ _ c.in-Ok.ensures.answered agrees)
