use Rattle.std.proofs.Common.{length}
use Rattle.visit_finder.proofs.FoundVisits.{IsTold}
use Rattle.visit_finder.proofs.solving.visits_by.Given as goal

abbrev pub invariant-loop-pivot : goal.invariant-loop-pivot
invariant-loop-pivot l = IsTold l.initial.moduli l.moduli l.fn.pivots.items l.stack.items l.visits.entries

abbrev pub decreases-loop-pivot : goal.decreases-loop-pivot
decreases-loop-pivot l = length l.stack.items
