use Rattle.std.specs.Prelude.{◌≡◌, ◌++◌}
use Rattle.mass_fold.specs.Rows.{EachLowest}
use Rattle.wide_masses.proofs.rows.WideRows.of.Given as goal

abbrev pub invariant-loop-x : goal.invariant-loop-x
invariant-loop-x l = record {
  next : (goal.iterator-loop-x).can_next l.x-iterator;
  finite : (goal.iterator-loop-x).is_finite l.x-iterator;
  copied : l.rows.items ++ l.x-iterator ≡ l.fn.table.entries;
  lowest : EachLowest l.rows.items;
}
