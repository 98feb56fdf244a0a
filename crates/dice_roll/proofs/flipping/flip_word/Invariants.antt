use Rattle.std.proofs.Common.{◌≡◌, ◌-◌, None}
use Rattle.zar_io.specs.FileBits.{low_bits}
use Rattle.dice_roll.specs.inner.Flipped.{FlippedOn}
use Rattle.dice_roll.proofs.flipping.flip_word.Given as goal

abbrev pub invariant-loop-made : goal.invariant-loop-made
invariant-loop-made g l = record {
  stands : g.F.Flips.Stands l.under_way l.made;
  same_labels : g.F.Flips.labels l.under_way ≡ g.F.Flips.labels l.initial.under_way;
  flipped : FlippedOn g.F.Flips.rolls l.flips l.initial.under_way l.under_way l.read l.made None (low_bits l.ready.count l.ready.word) (low_bits (l.past - l.made) l.ready.word);
}
