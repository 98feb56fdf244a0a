use Rattle.std.proofs.Common.{◌≡◌, ◌≤◌, ◌+◌, ℕ}
use Rattle.gcl_core.specs.meaning.Value.{State, value_of}
use Rattle.gcl_core.specs.meaning.Views.{expression_of}
use Rattle.units_law.specs.Down.{down}
use Rattle.units_law.specs.Units.{held, total}
use Rattle.units_law.proofs.UnitWords.{drawn_units, undrawn_units}
use Rattle.enclose_fold.specs.inner.Ended.{units_of}
use Rattle.enclose_fold.proofs.Passing.{Stops}
use Rattle.enclose_fold.proofs.fold.Fold.draw.Given as goal

abbrev pub invariant-loop-s : goal.invariant-loop-s
invariant-loop-s l = record {
  next : (goal.iterator-loop-s).can_next l.s-iterator;
  finite : (goal.iterator-loop-s).is_finite l.s-iterator;
  vars : l.next.vars ≡ l.fn.table.vars;
  within : total l.next.states.entries + (total (units_of l.ended) + total l.s-iterator) ≤ total l.fn.table.states.entries + total (units_of l.fn.ended);
  so_far : (G : State → ℕ) → held G l.next.states.entries + held G (drawn_units down l.x (value_of (expression_of l.e)) l.self.attempts l.s-iterator)
      ≡ held G (drawn_units down l.x (value_of (expression_of l.e)) l.self.attempts l.fn.table.states.entries);
  stopped : Stops (undrawn_units down l.x (value_of (expression_of l.e)) l.self.attempts) l.fn.table.states.entries l.fn.ended l.ended l.s-iterator;
}
