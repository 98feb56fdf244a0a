use Rattle.std.proofs.Common.{◌≡◌, []}
use Rattle.gcl_core.specs.meaning.Views.{expression_of}
use Rattle.gcl_core.specs.meaning.Value.{value_of}
use Rattle.scaled_fold.proofs.Passing.{Puts, Stops}
use Rattle.scaled_fold.proofs.draws.draw.Given as goal
use Rattle.scaled_fold.proofs.DrawnPairs.{drawn_pairs, undrawn_pairs}

abbrev pub invariant-loop-s : goal.invariant-loop-s
invariant-loop-s l = record {
  next : (goal.iterator-loop-s).can_next l.s-iterator;
  finite : (goal.iterator-loop-s).is_finite l.s-iterator;
  vars : l.next.vars ≡ l.fn.table.vars;
  so_far : Puts (drawn_pairs l.x (value_of (expression_of l.e)) l.attempts) [] l.fn.table.states.entries l.next.states.entries l.s-iterator;
  stopped : Stops (undrawn_pairs l.x (value_of (expression_of l.e)) l.attempts) l.fn.before l.fn.table.states.entries l.ended l.s-iterator;
}
