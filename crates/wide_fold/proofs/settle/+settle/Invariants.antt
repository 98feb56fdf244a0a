use Rattle.std.proofs.Common.{◌≡◌, ℕ, drop}
use Rattle.std.specs.List.{sum}
use Rattle.gcl_core.specs.meaning.Arms.{parts_of}
use Rattle.gcl_core.specs.meaning.Bounds.{BlockIsWeighed, BlockBelow, ArmsAreWeighed, ArmsBelow}
use Rattle.gcl_core.specs.meaning.Value.{value_of}
use Rattle.gcl_core.specs.meaning.Views.{expression_of, statements_of, list_of, arm_list_of, list_of_arms}
use Rattle.unlimited_law.specs.Alike.{Alike}
use Rattle.unlimited_law.specs.Settling.{EachState, BlockSettles}
use Rattle.exact_fold.specs.inner.Turning.{StaysIn, keys_in}
use Rattle.exact_fold.proofs.Arms.{ArmsFrom}
use Rattle.exact_fold.proofs.Steps.{SettlesRest}
use Rattle.wide_fold.proofs.settle.+settle.Given as goal

abbrev pub invariant-settle_block-loop-statement : goal.invariant-settle_block-loop-statement
invariant-settle_block-loop-statement l = record {
  below : (m : ℕ) → BlockBelow m (list_of l.statement-items) → BlockBelow m (list_of (drop l.statement-index l.statement-items));
  weights : BlockIsWeighed (list_of l.statement-items) → BlockIsWeighed (list_of (drop l.statement-index l.statement-items));
  vars : l.now.vars ≡ l.fn.table.vars;
  so_far : SettlesRest (BlockSettles Alike Alike (list_of l.statement-items)) (list_of (drop l.statement-index l.statement-items)) l.fn.table.states.entries l.fn.ended l.now.states.entries l.ended;
}

abbrev pub invariant-settle_arms-loop-count : goal.invariant-settle_arms-loop-count
invariant-settle_arms-loop-count l = record {
  vars : l.out.vars ≡ l.table.vars;
  below : ArmsBelow l.table.vars (arm_list_of (drop l.count-index l.count-items));
  weights : ArmsAreWeighed (arm_list_of (drop l.count-index l.count-items));
  so_far : ArmsFrom (sum (parts_of (list_of_arms l.arms))) (list_of_arms l.arms) (arm_list_of (drop l.count-index l.count-items)) l.table.states.entries l.fn.ended l.out.states.entries l.ended;
}

abbrev pub invariant-check_each-loop-state : goal.invariant-check_each-loop-state
invariant-check_each-loop-state l = record {
  next : (goal.iterator-check_each-loop-state).can_next l.state-iterator;
  finite : (goal.iterator-check_each-loop-state).is_finite l.state-iterator;
  so_far : EachState (StaysIn (value_of (expression_of l.guard)) (BlockSettles Alike Alike (statements_of l.body)) (keys_in l.closed.states.entries)) (keys_in l.state-iterator) →
      EachState (StaysIn (value_of (expression_of l.guard)) (BlockSettles Alike Alike (statements_of l.body)) (keys_in l.closed.states.entries)) (keys_in l.closed.states.entries);
}
