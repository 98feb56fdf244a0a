use Rattle.std.proofs.Common.{◌≡◌}
use Rattle.wide_fold.proofs.turning.same.Given as goal

abbrev pub invariant-loop-state : goal.invariant-loop-state
invariant-loop-state l = record {
  next : (goal.iterator-loop-state).can_next l.state-iterator;
  finite : (goal.iterator-loop-state).is_finite l.state-iterator;
  so_far : l.state-iterator ≡ l.others → l.first.states.entries ≡ l.second.states.entries;
}
