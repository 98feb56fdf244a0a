use Rattle.std.proofs.Common.{◌≤◌}
use Rattle.units_law.specs.Units.{total}
use Rattle.enclose_fold.proofs.EachEntry.{undecided}
use Rattle.enclose_fold.proofs.Passing.{Stops}
use Rattle.enclose_fold.proofs.choosing.undecided.Given as goal

abbrev pub invariant-loop-w : goal.invariant-loop-w
invariant-loop-w l = record {
  next : (goal.iterator-loop-w).can_next l.w-iterator;
  finite : (goal.iterator-loop-w).is_finite l.w-iterator;
  left : total l.w-iterator ≤ total l.table.states.entries;
  stopped : Stops (undecided l.odds.bound l.odds.attempts) l.table.states.entries l.fn.ended l.ended l.w-iterator;
}
