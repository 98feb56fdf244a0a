use Rattle.std.proofs.Common.{◌≡◌, []}
use Rattle.mass_fold.specs.declared.ended.Ended.{Ended}
use Rattle.mass_fold.specs.inner.Steps.{StepsOn}
use Rattle.table_flow.specs.Counts.{kept_if, none_stopped}
use Rattle.exact_fold.specs.inner.Turning.{outside}
use Rattle.wide_fold.proofs.turning.leaving.Given as goal

abbrev pub invariant-loop-state : goal.invariant-loop-state
invariant-loop-state l = record {
  next : (goal.iterator-loop-state).can_next l.state-iterator;
  finite : (goal.iterator-loop-state).is_finite l.state-iterator;
  vars : l.visits.vars ≡ l.fn.table.vars;
  so_far : (E : Ended) → StepsOn (kept_if (outside l.closed.states.entries)) none_stopped [] l.fn.table.states.entries E l.visits.states.entries E l.state-iterator;
}
