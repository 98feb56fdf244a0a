use Rattle.std.proofs.Common.{◌≡◌, ◌≤◌, ◌-◌, ◌++◌, length, drop}
use Rattle.visit_finder.proofs.columns.copied_below.Given as goal

abbrev pub invariant-loop-at : goal.invariant-loop-at
invariant-loop-at l = (l.at ≤ length l.row.items) × (l.all.items ++ drop l.at l.row.items ≡ l.initial.all.items ++ drop l.from l.row.items)

abbrev pub decreases-loop-at : goal.decreases-loop-at
decreases-loop-at l = length l.row.items - l.at
