use Rattle.std.proofs.Common.{◌≡◌}
use Rattle.bits_fold.proofs.finding.rest_of.Given as goal

abbrev pub invariant-loop-state : goal.invariant-loop-state
invariant-loop-state l = record {
  next : (goal.iterator-loop-state).can_next l.state-iterator;
  finite : (goal.iterator-loop-state).is_finite l.state-iterator;
  vars : l.left.vars ≡ l.all.vars;
}
