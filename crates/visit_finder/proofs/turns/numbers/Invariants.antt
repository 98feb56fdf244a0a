use Rattle.std.proofs.Common.{◌≡◌, map}
use Rattle.visit_finder.proofs.turns.numbers.Given as goal

abbrev pub invariant-loop-number : goal.invariant-loop-number
invariant-loop-number l = record {
  next : (goal.iterator-loop-number).can_next l.number-iterator;
  finite : (goal.iterator-loop-number).is_finite l.number-iterator;
  so_far : l.states.items ≡ map (λ e. e.0.now) l.yielded;
}
