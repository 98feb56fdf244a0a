use Rattle.std.proofs.Common.{◌≡◌, []}
use Rattle.gcl_core.specs.meaning.Views.{expression_of}
use Rattle.gcl_core.specs.meaning.Value.{value_of}
use Rattle.table_flow.specs.Tables.{set_go, faults_go}
use Rattle.scaled_law.specs.Pairs.{counted_pairs}
use Rattle.scaled_fold.proofs.Passing.{Puts, Stops}
use Rattle.scaled_fold.proofs.steps.assign.Given as goal

abbrev pub invariant-loop-s : goal.invariant-loop-s
invariant-loop-s l = record {
  next : (goal.iterator-loop-s).can_next l.s-iterator;
  finite : (goal.iterator-loop-s).is_finite l.s-iterator;
  vars : l.next.vars ≡ l.fn.table.vars;
  so_far : Puts (set_go counted_pairs l.x (value_of (expression_of l.e))) [] l.fn.table.states.entries l.next.states.entries l.s-iterator;
  stopped : Stops (faults_go counted_pairs (value_of (expression_of l.e))) l.fn.before l.fn.table.states.entries l.ended l.s-iterator;
}
