use Rattle.std.proofs.Common.{◌∙◌, ◌+◌, ◌-◌, ◌<◌, Some, None, arith}
use Rattle.zar_io.specs.FileBits.{low_bits}
use Rattle.dice_roll.proofs.Flipped.{word_flipped}
use Rattle.dice_roll.proofs.flipping.flip_word.Goals as goal

pub returns-in-Some-clause-flipped : goal.returns-in-Some-clause-flipped
returns-in-Some-clause-flipped g c =
    let past = c.args.read + c.from.result in
    let made = c.loop-made.made in
    let further : made < past = omega (arith, c.min-end.ensures, c.loop-made-test.true) in
    let more : made < c.args.flips = omega (arith, c.min-end.ensures, c.loop-made-test.true) in (
      low_bits (past - (made + 1)) c.args.ready.word,
      word_flipped g.F.Flips.rolls c.args.flips c.args.under_way.now c.loop-made.under_way c.flip.new.self c.args.read made past c.args.ready.count c.args.ready.word
          (Some c.in-Some.label) (g.met.F.Flips.no_bit_left c.loop-made.under_way) further more c.in-Some.ensures.rolled c.loop-made.invariant.flipped,
    )

pub loop-made-preserved : goal.loop-made-preserved
loop-made-preserved g c =
    let past = c.args.read + c.from.result in
    let made = c.loop-made.made in
    let further : made < past = omega (arith, c.min-end.ensures, c.loop-made-test.true) in
    let more : made < c.args.flips = omega (arith, c.min-end.ensures, c.loop-made-test.true) in
    record {
      stands = c.in_default.ensures.stands;
      same_labels = c.flip.ensures.same_labels ∙ c.loop-made.invariant.same_labels;
      flipped = word_flipped g.F.Flips.rolls c.args.flips c.args.under_way.now c.loop-made.under_way c.flip.new.self c.args.read made past c.args.ready.count c.args.ready.word
          None (g.met.F.Flips.no_bit_left c.loop-made.under_way) further more c.in_default.ensures.rolled c.loop-made.invariant.flipped;
    }
