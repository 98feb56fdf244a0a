use Rattle.std.proofs.Common.{◌≡◌, ◌+◌}
use Rattle.units_law.specs.Down.{down}
use Rattle.units_law.specs.Units.{total}
use Rattle.scaled_law.specs.Pairs.{at_least, at_most, rest_pairs}
use Rattle.scaled_law.specs.Up.{up}
use Rattle.scaled_fold.proofs.tables.undecided.Given as goal

abbrev pub invariant-loop-w : goal.invariant-loop-w
invariant-loop-w l = record {
  next : (goal.iterator-loop-w).can_next l.w-iterator;
  finite : (goal.iterator-loop-w).is_finite l.w-iterator;
  least : l.all.0 + total (at_least (rest_pairs down up l.odds.bound l.odds.attempts l.w-iterator)) ≡ total (at_least (rest_pairs down up l.odds.bound l.odds.attempts l.table.states.entries));
  most : l.all.1 + total (at_most (rest_pairs down up l.odds.bound l.odds.attempts l.w-iterator)) ≡ total (at_most (rest_pairs down up l.odds.bound l.odds.attempts l.table.states.entries));
}
