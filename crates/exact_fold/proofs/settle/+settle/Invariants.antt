use Rattle.std.proofs.Common.{◌≡◌, ◌≤◌, ◌-◌, length, drop}
use Rattle.gcl_core.specs.meaning.Bounds.{ArmsAreWeighed, ArmsBelow}
use Rattle.std.specs.List.{sum}
use Rattle.gcl_core.specs.meaning.Arms.{parts_of}
use Rattle.exact_fold.proofs.Arms.{ArmsFrom}
use Rattle.gcl_core.specs.meaning.Views.{list_of, arm_list_of, list_of_arms, expression_of, statements_of}
use Rattle.gcl_core.specs.meaning.Value.{value_of}
use Rattle.unlimited_law.specs.Alike.{Alike}
use Rattle.unlimited_law.specs.Settling.{EachState, BlockSettles}
use Rattle.exact_fold.specs.inner.Between.{between}
use Rattle.exact_fold.specs.inner.Turning.{StaysIn, keys_in}
use Rattle.exact_fold.proofs.Steps.{SettlesRest}
use Rattle.exact_fold.proofs.InParts.{StatesFrom}
use Rattle.exact_fold.proofs.settle.+settle.Given as goal

abbrev pub decreases-settle_block-loop-from : goal.decreases-settle_block-loop-from
decreases-settle_block-loop-from l = length l.block.stmts.items - l.from

abbrev pub invariant-settle_block-loop-from : goal.invariant-settle_block-loop-from
invariant-settle_block-loop-from l = record {
  place : l.from ≤ length l.block.stmts.items;
  vars : l.now.vars ≡ l.fn.table.vars;
  so_far : SettlesRest (BlockSettles Alike Alike (list_of l.block.stmts.items)) (list_of (drop l.from l.block.stmts.items)) l.fn.table.states.entries l.fn.ended l.now.states.entries l.ended;
}

abbrev pub invariant-settle_between-loop-at : goal.invariant-settle_between-loop-at
invariant-settle_between-loop-at l = record {
  vars : l.now.vars ≡ l.fn.table.vars;
  so_far : SettlesRest (BlockSettles Alike Alike (between l.from l.to l.block.stmts.items)) (between l.at l.to l.block.stmts.items) l.fn.table.states.entries l.fn.ended l.now.states.entries l.ended;
}

abbrev pub invariant-settle_from-loop-state : goal.invariant-settle_from-loop-state
invariant-settle_from-loop-state l = record {
  next : (goal.iterator-settle_from-loop-state).can_next l.state-iterator;
  finite : (goal.iterator-settle_from-loop-state).is_finite l.state-iterator;
  vars : l.out.vars ≡ l.fn.table.vars;
  so_far : StatesFrom (between l.from l.to l.block.stmts.items) l.fn.table.states.entries l.state-iterator l.fn.ended l.out.states.entries l.ended;
}

abbrev pub invariant-check_closed-loop-state : goal.invariant-check_closed-loop-state
invariant-check_closed-loop-state l = record {
  next : (goal.iterator-check_closed-loop-state).can_next l.state-iterator;
  finite : (goal.iterator-check_closed-loop-state).is_finite l.state-iterator;
  so_far : EachState (StaysIn (value_of (expression_of l.guard)) (BlockSettles Alike Alike (statements_of l.body)) (keys_in l.closed.states.entries)) (keys_in l.state-iterator) →
      EachState (StaysIn (value_of (expression_of l.guard)) (BlockSettles Alike Alike (statements_of l.body)) (keys_in l.closed.states.entries)) (keys_in l.closed.states.entries);
}

abbrev pub invariant-settle_arms-loop-count : goal.invariant-settle_arms-loop-count
invariant-settle_arms-loop-count l = record {
  vars : l.out.vars ≡ l.table.vars;
  below : ArmsBelow l.table.vars (arm_list_of (drop l.count-index l.count-items));
  weights : ArmsAreWeighed (arm_list_of (drop l.count-index l.count-items));
  so_far : ArmsFrom (sum (parts_of (list_of_arms l.arms))) (list_of_arms l.arms) (arm_list_of (drop l.count-index l.count-items)) l.table.states.entries l.fn.ended l.out.states.entries l.ended;
}
