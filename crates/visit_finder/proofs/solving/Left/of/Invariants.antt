use Rattle.std.proofs.Common.{◌≡◌}
use Rattle.visit_finder.proofs.solving.Left.of.Given as goal

abbrev pub invariant-loop-ends : goal.invariant-loop-ends
invariant-loop-ends l = l.left.columns.entries ≡ l.fn.columns.entries

abbrev pub invariant-loop-state : goal.invariant-loop-state
invariant-loop-state l = l.left.columns.entries ≡ l.fn.columns.entries
