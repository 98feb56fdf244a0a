use Rattle.std.proofs.Common.{ℕ, [], drop, false, refl, sym, subst}
use Rattle.zar_io.specs.Bits.{BeginsWith}
use Rattle.zar_io.specs.FileBits.{low_bits}
use Rattle.bit_runs.specs.ByteBits.{bits_to_come}
use Rattle.zar_io.proofs.FileBitsLemmas.{bits_left-front}
use Rattle.bit_runs.proofs.byte_bits.ByteBitsBits.peek.Goals as goal

pub returns-clause-bits : goal.returns-clause-bits
returns-clause-bits c = λ file.
    let s = c.load.new.self in
    subst (λ (word : ℕ). BeginsWith (low_bits s.waiting word) (bits_to_come s.waiting s.byte s.next s.bytes.now)) (sym c.from.ensures)
    (bits_left-front false s.waiting s.byte [] (drop s.next s.bytes.now) (λ some. refl))
