use Rattle.std.proofs.Common.{◌≡◌, ◌≤◌, []}
use Rattle.units_law.specs.Down.{down}
use Rattle.units_law.specs.Rounding.{class_units}
use Rattle.units_law.specs.Units.{total}
use Rattle.enclose_fold.proofs.Passing.{Passes}
use Rattle.enclose_fold.proofs.choosing.side.Given as goal

abbrev pub invariant-loop-s : goal.invariant-loop-s
invariant-loop-s l = record {
  next : (goal.iterator-loop-s).can_next l.s-iterator;
  finite : (goal.iterator-loop-s).is_finite l.s-iterator;
  vars : l.next.vars ≡ l.table.vars;
  left : total l.s-iterator ≤ total l.table.states.entries;
  so_far : Passes (class_units down l.odds.bound l.odds.attempts l.count) [] l.table.states.entries l.next.states.entries l.s-iterator;
}
