use Rattle.std.proofs.Common.{◌≡◌, ℕ, drop}
use Rattle.std.specs.List.{sum}
use Rattle.gcl_core.specs.meaning.Arms.{parts_of}
use Rattle.gcl_core.specs.meaning.Bounds.{BlockIsWeighed, BlockBelow, ArmsAreWeighed, ArmsBelow}
use Rattle.gcl_core.specs.meaning.Views.{list_of, arm_list_of, list_of_arms, expression_of, statements_of}
use Rattle.gcl_core.specs.meaning.Value.{value_of}
use Rattle.unlimited_law.specs.Settling.{EachState}
use Rattle.exact_fold.specs.inner.Turning.{keys_in}
use Rattle.bits_law.specs.Forever.{BlockEndless}
use Rattle.bits_law.specs.Reading.{TurnCosts, BlockCosts}
use Rattle.bits_fold.specs.inner.Turning.{IsSilent}
use Rattle.bits_fold.proofs.Arms.{ArmsFrom}
use Rattle.bits_fold.proofs.Forever.{ArmsOn, RestOn, ComesOn}
use Rattle.bits_fold.proofs.Steps.{RestReads}
use Rattle.bits_fold.proofs.reading.+reading.Given as goal
use Rattle.bits_fold.specs.Counted.{price_of}

abbrev pub invariant-read_block-loop-s : goal.invariant-read_block-loop-s
invariant-read_block-loop-s l = record {
  below : (m : ℕ) → BlockBelow m (list_of l.s-items) → BlockBelow m (list_of (drop l.s-index l.s-items));
  weights : BlockIsWeighed (list_of l.s-items) → BlockIsWeighed (list_of (drop l.s-index l.s-items));
  vars : l.now.table.vars ≡ l.fn.table.vars;
  so_far : RestReads (price_of l.what) (BlockCosts (price_of l.what) (list_of l.s-items)) (list_of (drop l.s-index l.s-items)) l.fn.table.states.entries l.now.table.states.entries l.now.bits;
  on : RestOn (price_of l.what) (BlockEndless (price_of l.what) (list_of l.s-items)) (list_of (drop l.s-index l.s-items)) l.fn.table.states.entries l.now.table.states.entries;
}

abbrev pub invariant-check_silent-loop-s : goal.invariant-check_silent-loop-s
invariant-check_silent-loop-s l = record {
  next : (goal.iterator-check_silent-loop-s).can_next l.s-iterator;
  finite : (goal.iterator-check_silent-loop-s).is_finite l.s-iterator;
  so_far : EachState (IsSilent (value_of (expression_of l.e)) (TurnCosts (price_of l.what).turns (BlockCosts (price_of l.what) (statements_of l.body))) (keys_in l.closed.states.entries)) (keys_in l.s-iterator) →
      EachState (IsSilent (value_of (expression_of l.e)) (TurnCosts (price_of l.what).turns (BlockCosts (price_of l.what) (statements_of l.body))) (keys_in l.closed.states.entries)) (keys_in l.closed.states.entries);
}

abbrev pub invariant-read_arms-loop-count : goal.invariant-read_arms-loop-count
invariant-read_arms-loop-count l = record {
  vars : l.out.table.vars ≡ l.table.vars;
  below : ArmsBelow l.table.vars (arm_list_of (drop l.count-index l.count-items));
  weights : ArmsAreWeighed (arm_list_of (drop l.count-index l.count-items));
  so_far : ArmsFrom (price_of l.what) (sum (parts_of (list_of_arms l.arms))) (list_of_arms l.arms) (arm_list_of (drop l.count-index l.count-items)) l.table.states.entries l.out.table.states.entries l.out.bits;
  on : ArmsOn (price_of l.what) (sum (parts_of (list_of_arms l.arms))) (list_of_arms l.arms) (arm_list_of (drop l.count-index l.count-items)) l.table.states.entries;
}

abbrev pub invariant-check_forever-loop : goal.invariant-check_forever-loop
invariant-check_forever-loop l = record {
  now_vars : l.now.vars ≡ l.fn.table.vars;
  all_vars : l.all.vars ≡ l.fn.table.vars;
  coming : ComesOn (price_of l.what) (value_of (expression_of l.e)) (statements_of l.body) l.fn.table.states.entries l.now.states.entries l.all.states.entries;
}

abbrev pub invariant-class_in-loop : goal.invariant-class_in-loop
invariant-class_in-loop l = record { vars : l.within.vars ≡ l.fn.closed.vars }
