use Rattle.std.proofs.Common.{◌≡◌, ◌+◌}
use Rattle.units_law.specs.Units.{total}
use Rattle.scaled_law.specs.Pairs.{at_least, at_most}
use Rattle.scaled_fold.proofs.tables.all_of.Given as goal

abbrev pub invariant-loop-w : goal.invariant-loop-w
invariant-loop-w l = record {
  next : (goal.iterator-loop-w).can_next l.w-iterator;
  finite : (goal.iterator-loop-w).is_finite l.w-iterator;
  least : l.all.0 + total (at_least l.w-iterator) ≡ total (at_least l.table.states.entries);
  most : l.all.1 + total (at_most l.w-iterator) ≡ total (at_most l.table.states.entries);
}
