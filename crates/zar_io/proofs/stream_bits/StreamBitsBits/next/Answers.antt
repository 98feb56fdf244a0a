use Rattle.std.proofs.Common.{◌≡◌, ◌+◌, ◌-◌, ◌*◌, ◌/◌, ap, sym, ◌∙◌, arith}
use Rattle.zar_io.specs.StreamBits.{stream_word}
use Rattle.zar_io.proofs.StreamBitsLemmas.{bit_given}
use Rattle.zar_io.proofs.stream_bits.StreamBitsBits.next.Goals as goal

pub returns-clause-bit : goal.returns-clause-bit
returns-clause-bit c = λ file agrees.
    let s = c.draw_word.new.self in
    let waits = c.draw_word.ensures.waits in
    let word = stream_word s.seed s.stream in
    let at = 32 * s.drawn - s.waiting in
    let place : s.drawn - 1 ≡ at / 32 = omega (arith, waits, s.in_word, s.some) in
    let ends : at + s.waiting ≡ 32 * s.drawn = omega (arith, s.some) in
    let after : 32 * s.drawn - (s.waiting - 1) ≡ at + 1 = omega (arith, waits, s.some) in
    let given = bit_given word s.word at s.left s.drawn s.waiting ends waits s.in_word (s.held waits ∙ ap word place) (λ e. c.if-self-eq0.false (sym c.draw_word.ensures.left ∙ e)) in
    cc
