use Rattle.std.proofs.Common.{◌≡◌, ◌++◌, drop}
use Rattle.weighted_roll.specs.inner.Tables.{leaf_labels}
use Rattle.weighted_roll.proofs.table.push_leaves.Given as goal

abbrev pub invariant-loop-i : goal.invariant-loop-i
invariant-loop-i l = l.labels.items ++ leaf_labels l.whole (drop l.i l.rests) l.i ≡ l.initial.labels.items ++ leaf_labels l.whole l.rests 0
