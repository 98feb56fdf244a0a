use Rattle.std.proofs.Common.{◌≡◌, ap, arith, ◌∙◌, ◌+◌, ◌-◌, ◌*◌}
use Rattle.zar_io.specs.StreamBits.{stream_word, word_bits}
use Rattle.zar_io.proofs.StreamBitsLemmas.{bits_taken}
use Rattle.zar_io.proofs.stream_bits.StreamBitsBits.take.Goals as goal

pub returns-clause-bits : goal.returns-clause-bits
returns-clause-bits c = λ file.
    let s = c.args.self.now in
    let count = c.args.count in
    let word = stream_word s.seed s.stream in
    let at : 32 * s.drawn - (s.waiting - count) ≡ 32 * s.drawn - s.waiting + count = omega (arith, s.some) in
    ap (λ n. word_bits word n (s.left - c.from.result)) at
    ∙ ap (λ n. word_bits word (32 * s.drawn - s.waiting + count) (s.left - n)) c.from.ensures
    ∙ bits_taken word (32 * s.drawn - s.waiting) count s.left (omega arith)
