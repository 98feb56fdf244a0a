use Rattle.std.proofs.Common.{◌≡◌, []}
use Rattle.gcl_core.specs.meaning.Views.{expression_of}
use Rattle.gcl_core.specs.meaning.Value.{value_of}
use Rattle.table_flow.specs.Tables.{holds, fails}
use Rattle.units_law.specs.Units.{only_units, fault_units}
use Rattle.enclose_fold.proofs.Passing.{Passes, Stops}
use Rattle.enclose_fold.proofs.steps.split.Given as goal

abbrev pub invariant-loop-s : goal.invariant-loop-s
invariant-loop-s l = record {
  next : (goal.iterator-loop-s).can_next l.s-iterator;
  finite : (goal.iterator-loop-s).is_finite l.s-iterator;
  first_vars : l.first.vars ≡ l.fn.table.vars;
  second_vars : l.second.vars ≡ l.fn.table.vars;
  first : Passes (only_units (holds (value_of (expression_of l.e)))) [] l.fn.table.states.entries l.first.states.entries l.s-iterator;
  second : Passes (only_units (fails (value_of (expression_of l.e)))) [] l.fn.table.states.entries l.second.states.entries l.s-iterator;
  stopped : Stops (fault_units (value_of (expression_of l.e))) l.fn.table.states.entries l.fn.ended l.ended l.s-iterator;
}
