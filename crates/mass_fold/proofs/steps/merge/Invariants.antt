use Rattle.std.proofs.Common.{◌≡◌}
use Rattle.mass_fold.specs.declared.ended.Ended.{Ended}
use Rattle.mass_fold.specs.inner.Steps.{StepsOn}
use Rattle.table_flow.specs.Counts.{all_kept, none_stopped}
use Rattle.mass_fold.proofs.steps.merge.Given as goal

abbrev pub invariant-loop-s : goal.invariant-loop-s
invariant-loop-s l = record {
  next : (goal.iterator-loop-s).can_next l.s-iterator;
  finite : (goal.iterator-loop-s).is_finite l.s-iterator;
  vars : l.into.vars ≡ l.fn.into.vars;
  so_far : (E : Ended) → StepsOn all_kept none_stopped l.fn.into.states.entries l.fn.table.states.entries E l.into.states.entries E l.s-iterator;
}
