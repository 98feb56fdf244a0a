use Rattle.std.proofs.Common.{◌≡◌, ◌+◌, ◌-◌, ◌*◌, ◌/◌, ◌≤◌, ◌∙◌, ap, arith, refl, subst, sym}
use Rattle.zar_io.specs.Bits.{BeginsWith}
use Rattle.zar_io.specs.FileBits.{low_bits}
use Rattle.zar_io.specs.StreamBits.{stream_word, word_bits}
use Rattle.zar_io.proofs.StreamBitsLemmas.{begins_ahead}
use Rattle.zar_io.proofs.stream_bits.StreamBitsBits.peek.Goals as goal

pub returns-then-self-eq0-clause-bits : goal.returns-then-self-eq0-clause-bits
unfolding low_bits
returns-then-self-eq0-clause-bits c = λ file. (_, refl)

pub returns-clause-bits : goal.returns-clause-bits
returns-clause-bits c = λ file.
    let s = c.draw_word.new.self in
    let waits = c.draw_word.ensures.waits in
    let word = stream_word s.seed s.stream in
    let at = 32 * s.drawn - s.waiting in
    let count = c.min-count.result in
    let le : count ≤ s.waiting = omega arith in
    let few : count ≤ s.left = omega arith in
    let place : s.drawn - 1 ≡ at / 32 = omega (arith, waits, s.in_word, s.some) in
    let ends : at + s.waiting ≡ 32 * s.drawn = omega (arith, s.some) in
    subst (λ v. BeginsWith (low_bits count v) (word_bits word at s.left)) (sym c.from.ensures)
    (begins_ahead word s.word at s.left s.waiting count s.drawn ends s.in_word (s.held waits ∙ ap word place) le few)
