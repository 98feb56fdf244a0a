use Rattle.std.proofs.Common.{◌≡◌}
use Rattle.mass_fold.specs.declared.ended.Ended.{Ended}
use Rattle.mass_fold.specs.inner.Steps.{StepsOn}
use Rattle.table_flow.specs.Counts.{all_kept, none_stopped}
use Rattle.wide_fold.proofs.turning.merge.Given as goal

abbrev pub invariant-loop-state : goal.invariant-loop-state
invariant-loop-state l = record {
  next : (goal.iterator-loop-state).can_next l.state-iterator;
  finite : (goal.iterator-loop-state).is_finite l.state-iterator;
  vars : l.into.vars ≡ l.fn.into.vars;
  so_far : (E : Ended) → StepsOn all_kept none_stopped l.fn.into.states.entries l.fn.table.states.entries E l.into.states.entries E l.state-iterator;
}
