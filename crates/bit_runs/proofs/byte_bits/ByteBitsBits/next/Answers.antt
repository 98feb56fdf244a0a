use Rattle.std.proofs.Common.{◌≡◌, ◌∙◌, [], drop, false, refl, sym, rules, arith}
use Rattle.zar_io.proofs.FileBitsLemmas.{bits_left-bit}
use Rattle.bit_runs.proofs.GivenBytes.{no_byte}
use Rattle.bit_runs.proofs.byte_bits.ByteBitsBits.next.Goals as goal

pub returns-then-not-load-clause-bit : goal.returns-then-not-load-clause-bit
returns-then-not-load-clause-bit c = λ file agrees.
    let s = c.load.new.self in
    let none = c.load.ensures.none (search rules) in
    let e = no_byte s.waiting s.byte s.next s.bytes.now none.0 none.1 in
    (sym c.load.ensures.left ∙ e, e)

pub returns-clause-bit : goal.returns-clause-bit
returns-clause-bit c = λ file agrees.
    let s = c.load.new.self in
    let waits = c.load.ensures.waits (search rules) in
    sym c.load.ensures.left ∙ bits_left-bit false s.waiting s.byte [] (drop s.next s.bytes.now) refl waits
