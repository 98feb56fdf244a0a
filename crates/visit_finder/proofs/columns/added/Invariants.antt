use Rattle.std.proofs.Common.{[], ◌-◌, ◌≤◌, ◌++◌, length, drop}
use Rattle.visit_finder.proofs.Rows.{Joined}
use Rattle.visit_finder.proofs.columns.added.Given as goal

abbrev pub invariant-loop-entry : goal.invariant-loop-entry
invariant-loop-entry l = record {
  within : l.at ≤ length l.row.items;
  joined : Joined l.moduli l.factor l.row.items l.other.items (l.all.items ++ drop l.at l.row.items) (drop l.entry-index l.entry-items);
}

abbrev pub invariant-loop-at : goal.invariant-loop-at
invariant-loop-at l = record {
  within : l.at ≤ length l.row.items;
  joined : Joined l.moduli l.factor l.row.items l.other.items (l.all.items ++ drop l.at l.row.items) [];
}

abbrev pub decreases-loop-at : goal.decreases-loop-at
decreases-loop-at l = length l.row.items - l.at
