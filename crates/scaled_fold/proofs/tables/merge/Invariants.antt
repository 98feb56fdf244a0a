use Rattle.std.proofs.Common.{◌≡◌}
use Rattle.scaled_fold.proofs.Passing.{Puts}
use Rattle.scaled_fold.proofs.tables.merge.Given as goal

abbrev pub invariant-loop-s : goal.invariant-loop-s
invariant-loop-s l = record {
  next : (goal.iterator-loop-s).can_next l.s-iterator;
  finite : (goal.iterator-loop-s).is_finite l.s-iterator;
  vars : l.all.vars ≡ l.fn.into.vars;
  so_far : Puts (λ J. J) l.fn.into.states.entries l.fn.table.states.entries l.all.states.entries l.s-iterator;
}
