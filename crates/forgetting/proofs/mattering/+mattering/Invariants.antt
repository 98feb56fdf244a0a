use Rattle.std.proofs.Common.{◌≡◌, ℕ, ◌≤◌, length, drop}
use Rattle.gcl_core.specs.meaning.Views.{list_of, arm_list_of}
use Rattle.gcl_core.specs.declared.syntax.Arms.{out-Arms}
use Rattle.forgetting.specs.Liveness.{matters_to, matters_to_arms}
use Rattle.forgetting.specs.Marks.{marked}
use Rattle.forgetting.proofs.mattering.+mattering.Given as goal

abbrev pub invariant-before_arms-loop-i : goal.invariant-before_arms-loop-i
invariant-before_arms-loop-i l = record {
  place : l.i ≤ length (out-Arms l.arms).arms.items;
  set : (y : ℕ) → marked l.set.marks y ≡ matters_to_arms y (arm_list_of (drop l.i (out-Arms l.arms).arms.items)) (marked l.after.marks y);
}

abbrev pub invariant-before_block-loop-i : goal.invariant-before_block-loop-i
invariant-before_block-loop-i l = record {
  place : l.i ≤ length l.block.stmts.items;
  set : (y : ℕ) → marked l.set.marks y ≡ matters_to y (list_of (drop l.i l.block.stmts.items)) (marked l.fn.after.marks y);
}

abbrev pub decreases-before_arms : goal.decreases-before_arms
decreases-before_arms l = goal.size-before_arms l

abbrev pub decreases-before_block : goal.decreases-before_block
decreases-before_block l = goal.size-before_block l

abbrev pub decreases-before_statement : goal.decreases-before_statement
decreases-before_statement l = goal.size-before_statement l

abbrev pub decreases-before_arms-loop-i : goal.decreases-before_arms-loop-i
decreases-before_arms-loop-i l = l.i

abbrev pub decreases-before_block-loop-i : goal.decreases-before_block-loop-i
decreases-before_block-loop-i l = l.i
