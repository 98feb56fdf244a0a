use Rattle.std.proofs.Common.{◌≡◌}
use Rattle.enclose_fold.proofs.Passing.{Passes}
use Rattle.enclose_fold.proofs.steps.merge.Given as goal

abbrev pub invariant-loop-s : goal.invariant-loop-s
invariant-loop-s l = record {
  next : (goal.iterator-loop-s).can_next l.s-iterator;
  finite : (goal.iterator-loop-s).is_finite l.s-iterator;
  vars : l.into.vars ≡ l.fn.into.vars;
  so_far : Passes (λ J. J) l.fn.into.states.entries l.fn.table.states.entries l.into.states.entries l.s-iterator;
}
