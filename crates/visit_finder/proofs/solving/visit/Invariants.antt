use Rattle.visit_finder.proofs.Visited.{IsVisiting}
use Rattle.visit_finder.proofs.solving.visit.Given as goal

abbrev pub invariant-loop-source : goal.invariant-loop-source
invariant-loop-source l = IsVisiting l.initial.moduli l.moduli l.visits.entries l.pivot.column.entered l.sum l.source-items l.source-index
