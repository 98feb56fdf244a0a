use Rattle.std.proofs.Common.{length}
use Rattle.visit_finder.proofs.Eliminating.{Eliminating}
use Rattle.visit_finder.proofs.solving.solved.Given as goal

abbrev pub invariant-loop-state : goal.invariant-loop-state
invariant-loop-state l = Eliminating l.initial.moduli l.moduli l.initial.left.columns.entries l.left.columns.entries l.pivots.items

abbrev pub decreases-loop-state : goal.decreases-loop-state
decreases-loop-state l = length l.left.columns.entries
