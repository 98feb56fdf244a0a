use Rattle.std.proofs.Common.{◌≡◌}
use Rattle.weighted_roll.specs.inner.Tables.{after_flips, all_labels, all_ends}
use Rattle.weighted_roll.proofs.table.Table.of.Given as goal

abbrev pub invariant-loop-t : goal.invariant-loop-t
invariant-loop-t l = record {
  rests : l.rests.items ≡ after_flips l.whole l.t l.weights;
  columns : l.labels.items ≡ all_labels l.whole l.t l.weights;
  places : l.ends.items ≡ all_ends l.whole l.t l.weights;
}
