use Rattle.std.proofs.Common.{◌≡◌, ◌<◌, ◌-◌, ◌∙◌, ◌∷◌, ap, sym, arith}
use Rattle.zar_io.specs.FileBits.{low_bits}
use Rattle.library_user.proofs.LowBits.{none_left, first_bit}
use Rattle.library_user.proofs.word_bits.WordBitsBits.next.Goals as goal

pub returns-then-self-eq0-clause-bit : goal.returns-then-self-eq0-clause-bit
returns-then-self-eq0-clause-bit c file agrees =
    let none : c.args.self.now.count ≡ 0 = grind arith in
    let e = none_left c.args.self.now.count c.args.self.now.word none in
    (e, e)

pub returns-clause-bit : goal.returns-clause-bit
returns-clause-bit c file agrees =
    let count = c.args.self.now.count in
    let word = c.args.self.now.word in
    let some : 0 < count = grind arith in
    first_bit count word some ∙ ap (λ bit. bit ∷ low_bits (count - 1) word) (sym c.bit_at.ensures)
