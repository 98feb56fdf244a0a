use Rattle.std.proofs.Common.{◌≡◌, []}
use Rattle.gcl_core.specs.meaning.Views.{expression_of}
use Rattle.gcl_core.specs.meaning.Value.{value_of}
use Rattle.units_law.specs.Units.{set_units, fault_units}
use Rattle.enclose_fold.proofs.Passing.{Passes, Stops}
use Rattle.enclose_fold.proofs.steps.assign.Given as goal

abbrev pub invariant-loop-s : goal.invariant-loop-s
invariant-loop-s l = record {
  next : (goal.iterator-loop-s).can_next l.s-iterator;
  finite : (goal.iterator-loop-s).is_finite l.s-iterator;
  vars : l.next.vars ≡ l.fn.table.vars;
  so_far : Passes (set_units l.x (value_of (expression_of l.e))) [] l.fn.table.states.entries l.next.states.entries l.s-iterator;
  stopped : Stops (fault_units (value_of (expression_of l.e))) l.fn.table.states.entries l.fn.ended l.ended l.s-iterator;
}
