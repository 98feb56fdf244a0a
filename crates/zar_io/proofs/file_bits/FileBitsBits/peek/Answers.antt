use Rattle.std.specs.Prelude.{slice_range}
use Rattle.zar_io.specs.Trace.{left_in}
use Rattle.zar_io.proofs.FileBitsLemmas.{bits_left-front}
use Rattle.zar_io.proofs.file_bits.FileBitsBits.peek.Goals as goal

pub returns-clause-bits : goal.returns-clause-bits
returns-clause-bits g c = λ file.
    let s = c.if-self-eq0.self in
    bits_left-front s.done s.waiting s.current (slice_range s.buffer s.start s.end) (left_in file (g.F.Files.answered s.files.now)) s.empty_once_done
