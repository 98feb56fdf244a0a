use Rattle.std.proofs.Common.{◌≡◌}
use Rattle.wide_fold.proofs.Weights.{LedOn}
use Rattle.wide_fold.proofs.sources.add_led.Given as goal

abbrev pub invariant-loop-state : goal.invariant-loop-state
invariant-loop-state l = record {
  next : (goal.iterator-loop-state).can_next l.state-iterator;
  finite : (goal.iterator-loop-state).is_finite l.state-iterator;
  vars : l.out.vars ≡ l.fn.out.vars;
  so_far : LedOn l.times l.table.states.entries l.fn.out.states.entries l.out.states.entries l.state-iterator;
}
