use Rattle.visit_finder.specs.inner.Pivots.{Renews}
use Rattle.visit_finder.proofs.solving.Left.replace.Given as goal

abbrev pub invariant-loop-target : goal.invariant-loop-target
invariant-loop-target l = record {
  next : (goal.iterator-loop-target).can_next l.target-iterator;
  finite : (goal.iterator-loop-target).is_finite l.target-iterator;
  renews : Renews l.moduli l.state l.leaves l.column l.initial.self.columns.entries l.self.columns.entries;
}
