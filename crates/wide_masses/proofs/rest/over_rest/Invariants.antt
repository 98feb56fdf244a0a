use Rattle.std.specs.Prelude.{◌-◌}
use Rattle.table_flow.specs.Scale.{whole}
use Rattle.mass_fold.proofs.Passing.{PassesOn}
use Rattle.wide_masses.proofs.rest.over_rest.Given as goal

abbrev pub invariant-loop-x : goal.invariant-loop-x
invariant-loop-x l = record {
  next : (goal.iterator-loop-x).can_next l.x-iterator;
  finite : (goal.iterator-loop-x).is_finite l.x-iterator;
  so_far : PassesOn (λ N. N - whole N l.failed) (λ N. 1) l.failed l.fn.table.entries l.masses.entries l.x-iterator;
}
