use Rattle.std.proofs.Common.{◌≡◌, ℕ, ◌≤◌, length, drop}
use Rattle.gcl_core.specs.meaning.Views.{list_of, arm_list_of}
use Rattle.gcl_core.specs.declared.syntax.Arms.{out-Arms}
use Rattle.forgetting.specs.Filling.{filled_by, filled_by_arms}
use Rattle.forgetting.specs.Marks.{marked}
use Rattle.forgetting.proofs.filled.+filling.Given as goal

abbrev pub invariant-behind_arms-loop-i : goal.invariant-behind_arms-loop-i
invariant-behind_arms-loop-i l = record {
  place : l.i ≤ length (out-Arms l.arms).arms.items;
  set : (y : ℕ) → marked l.set.marks y ≡ filled_by_arms y (arm_list_of (drop l.i (out-Arms l.arms).arms.items)) (marked l.filled.marks y);
}

abbrev pub invariant-behind_block-loop-i : goal.invariant-behind_block-loop-i
invariant-behind_block-loop-i l = record {
  place : l.i ≤ length l.block.stmts.items;
  set : (y : ℕ) → filled_by y (list_of (drop l.i l.block.stmts.items)) (marked l.set.marks y) ≡ filled_by y (list_of l.block.stmts.items) (marked l.fn.filled.marks y);
}

abbrev pub decreases-behind_arms : goal.decreases-behind_arms
decreases-behind_arms l = goal.size-behind_arms l

abbrev pub decreases-behind_block : goal.decreases-behind_block
decreases-behind_block l = goal.size-behind_block l

abbrev pub decreases-behind_statement : goal.decreases-behind_statement
decreases-behind_statement l = goal.size-behind_statement l

abbrev pub decreases-behind_arms-loop-i : goal.decreases-behind_arms-loop-i
decreases-behind_arms-loop-i l = l.i
