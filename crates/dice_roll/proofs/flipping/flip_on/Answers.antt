use Rattle.std.proofs.Common.{◌∙◌, ◌-◌, [], ◌∷◌, drop, sym, ap, subst}
use Rattle.zar_io.specs.Bits.{Took, BeginsWith}
use Rattle.zar_io.specs.FileBits.{low_bits}
use Rattle.dice_roll.proofs.Flipped.{ready_flipped, flipped_once}
use Rattle.dice_roll.proofs.flipping.flip_on.Goals as goal

pub returns-then-ready-gt0-clause-flipped : goal.returns-then-ready-gt0-clause-flipped
returns-then-ready-gt0-clause-flipped g c file agrees =
    let ready = c.peek-ready in
    let word = c.flip_word-label in
    let same = ready.ensures.same_bits file in
    ready_flipped g.F.Flips.rolls c.args.flips c.args.under_way.now word.new.under_way c.args.read word.result.1 word.result.0
    (low_bits ready.result.count ready.result.word) word.ensures.flipped.0 (g.B.Bits.left c.args.bits.now file) (g.B.Bits.left c.take.new.self file) word.ensures.flipped.1
    (subst (BeginsWith (low_bits ready.result.count ready.result.word)) same (ready.ensures.bits file))
    (c.take.ensures.bits file ∙ ap (drop (word.result.1 - c.args.read)) same)

pub returns-in-Some-clause-flipped : goal.returns-in-Some-clause-flipped
returns-in-Some-clause-flipped g c file agrees =
    let peeked = g.B.Bits.left c.peek-ready.new.self file in
    let left = g.B.Bits.left c.next.new.self file in
    let took = subst (λ answer. Took answer peeked left) c.in-Some.is (c.in_ok-next.ensures.bit file agrees) in (
      c.in-Some.bit ∷ [],
      flipped_once g.F.Flips.rolls c.args.flips c.args.under_way.now c.flip.new.self c.args.read c.in-Some.bit c.flip.result
          (g.met.F.Flips.no_bit_left c.args.under_way.now) c.requires.more c.flip.ensures.rolled,
      sym (c.peek-ready.ensures.same_bits file) ∙ took,
    )
