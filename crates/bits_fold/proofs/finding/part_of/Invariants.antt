use Rattle.std.proofs.Common.{◌≡◌}
use Rattle.bits_fold.proofs.finding.part_of.Given as goal

abbrev pub invariant-loop-state-2 : goal.invariant-loop-state-2
invariant-loop-state-2 l = record {
  next : (goal.iterator-loop-state-2).can_next l.state-iterator;
  finite : (goal.iterator-loop-state-2).is_finite l.state-iterator;
  vars : l.part.vars ≡ l.table.vars;
}
