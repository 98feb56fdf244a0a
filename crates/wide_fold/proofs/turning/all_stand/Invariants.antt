use Rattle.exact_fold.specs.inner.Turning.{AllInside}
use Rattle.wide_fold.proofs.turning.all_stand.Given as goal

abbrev pub invariant-loop-state : goal.invariant-loop-state
invariant-loop-state l = record {
  next : (goal.iterator-loop-state).can_next l.state-iterator;
  finite : (goal.iterator-loop-state).is_finite l.state-iterator;
  so_far : AllInside l.closed.states.entries l.state-iterator → AllInside l.closed.states.entries l.table.states.entries;
}
