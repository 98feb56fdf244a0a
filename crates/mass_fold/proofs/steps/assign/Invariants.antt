use Rattle.std.proofs.Common.{◌≡◌, []}
use Rattle.gcl_core.specs.meaning.Views.{expression_of}
use Rattle.gcl_core.specs.meaning.Value.{value_of}
use Rattle.mass_fold.specs.inner.Steps.{StepsOn}
use Rattle.table_flow.specs.Counts.{moved, stopped}
use Rattle.mass_fold.proofs.steps.assign.Given as goal

abbrev pub invariant-loop-s : goal.invariant-loop-s
invariant-loop-s l = record {
  next : (goal.iterator-loop-s).can_next l.s-iterator;
  finite : (goal.iterator-loop-s).is_finite l.s-iterator;
  vars : l.next.vars ≡ l.fn.table.vars;
  so_far : StepsOn (moved l.x (value_of (expression_of l.e))) (stopped (value_of (expression_of l.e))) [] l.fn.table.states.entries l.fn.ended l.next.states.entries l.ended l.s-iterator;
}
