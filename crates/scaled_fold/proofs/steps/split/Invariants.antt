use Rattle.std.proofs.Common.{◌≡◌, []}
use Rattle.gcl_core.specs.meaning.Views.{expression_of}
use Rattle.gcl_core.specs.meaning.Value.{value_of}
use Rattle.table_flow.specs.Tables.{holds, fails, only_go, faults_go}
use Rattle.scaled_law.specs.Pairs.{counted_pairs}
use Rattle.scaled_fold.proofs.Passing.{Puts, Stops}
use Rattle.scaled_fold.proofs.steps.split.Given as goal

abbrev pub invariant-loop-s : goal.invariant-loop-s
invariant-loop-s l = record {
  next : (goal.iterator-loop-s).can_next l.s-iterator;
  finite : (goal.iterator-loop-s).is_finite l.s-iterator;
  first_vars : l.first.vars ≡ l.fn.table.vars;
  second_vars : l.second.vars ≡ l.fn.table.vars;
  first : Puts (only_go counted_pairs (holds (value_of (expression_of l.e)))) [] l.fn.table.states.entries l.first.states.entries l.s-iterator;
  second : Puts (only_go counted_pairs (fails (value_of (expression_of l.e)))) [] l.fn.table.states.entries l.second.states.entries l.s-iterator;
  stopped : Stops (faults_go counted_pairs (value_of (expression_of l.e))) l.fn.before l.fn.table.states.entries l.ended l.s-iterator;
}
