use Rattle.std.proofs.Common.{◌≡◌, []}
use Rattle.units_law.specs.Down.{down}
use Rattle.scaled_law.specs.Pairs.{class_pairs}
use Rattle.scaled_law.specs.Up.{up}
use Rattle.scaled_fold.proofs.Passing.{Puts}
use Rattle.scaled_fold.proofs.tables.side.Given as goal

abbrev pub invariant-loop-s : goal.invariant-loop-s
invariant-loop-s l = record {
  next : (goal.iterator-loop-s).can_next l.s-iterator;
  finite : (goal.iterator-loop-s).is_finite l.s-iterator;
  vars : l.next.vars ≡ l.table.vars;
  so_far : Puts (class_pairs down up l.odds.bound l.odds.attempts l.count) [] l.table.states.entries l.next.states.entries l.s-iterator;
}
