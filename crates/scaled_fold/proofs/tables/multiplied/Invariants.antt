use Rattle.std.proofs.Common.{◌≡◌, []}
use Rattle.scaled_law.specs.Scaled.{times_pairs}
use Rattle.scaled_fold.proofs.Passing.{Puts}
use Rattle.scaled_fold.proofs.tables.multiplied.Given as goal

abbrev pub invariant-loop-s : goal.invariant-loop-s
invariant-loop-s l = record {
  next : (goal.iterator-loop-s).can_next l.s-iterator;
  finite : (goal.iterator-loop-s).is_finite l.s-iterator;
  vars : l.more.vars ≡ l.table.vars;
  so_far : Puts (times_pairs (l.k, 1)) [] l.table.states.entries l.more.states.entries l.s-iterator;
}
