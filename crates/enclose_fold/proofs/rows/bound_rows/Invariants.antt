use Rattle.std.specs.Prelude.{◌≡◌, ◌≤◌, ◌++◌}
use Rattle.units_law.specs.Units.{total}
use Rattle.enclose_fold.specs.inner.Rows.{rows_of}
use Rattle.enclose_fold.proofs.rows.bound_rows.Given as goal

abbrev pub invariant-loop-x : goal.invariant-loop-x
invariant-loop-x l = record {
  next : (goal.iterator-loop-x).can_next l.x-iterator;
  finite : (goal.iterator-loop-x).is_finite l.x-iterator;
  within : total l.x-iterator ≤ l.round.all;
  so_far : l.rows.items ++ rows_of l.round.rounds l.round.failed l.round.all l.x-iterator ≡ rows_of l.round.rounds l.round.failed l.round.all l.fn.units.entries;
}
