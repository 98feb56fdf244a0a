use Rattle.exact_fold.specs.inner.Settled.{AreAbove}
use Rattle.wide_fold.proofs.turning.above.Given as goal

abbrev pub invariant-loop-weight : goal.invariant-loop-weight
invariant-loop-weight l = record {
  next : (goal.iterator-loop-weight).can_next l.weight-iterator;
  finite : (goal.iterator-loop-weight).is_finite l.weight-iterator;
  so_far : AreAbove l.weight-iterator → AreAbove l.table.states.entries;
}
