use Rattle.std.proofs.Common.{◌≡◌, ◌+◌}
use Rattle.units_law.specs.Units.{total}
use Rattle.enclose_fold.proofs.steps.all_of.Given as goal

abbrev pub invariant-loop-w : goal.invariant-loop-w
invariant-loop-w l = record {
  next : (goal.iterator-loop-w).can_next l.w-iterator;
  finite : (goal.iterator-loop-w).is_finite l.w-iterator;
  so_far : l.sum + total l.w-iterator ≡ total l.table.states.entries;
}
