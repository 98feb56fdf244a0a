use Rattle.std.proofs.Common.{◌≡◌, ◌≤◌, length, drop}
use Rattle.std.specs.Prelude.{reverse}
use Rattle.gcl_core.specs.declared.syntax.Arms.{out-Arms}
use Rattle.gcl_core.specs.meaning.Views.{list_of, arm_list_of}
use Rattle.forgetting.specs.Liveness.{before}
use Rattle.forgetting.specs.Forgetful.{forgetful, forgetful_arms}
use Rattle.forgetting.specs.Marks.{marked}
use Rattle.forgetting.specs.inner.Fronts.{filled_at}
use Rattle.forgetting.proofs.blocks.+forgetting.Given as goal

abbrev pub decreases-forgetful_branch : goal.decreases-forgetful_branch
decreases-forgetful_branch l = goal.size-forgetful_branch l

abbrev pub decreases-forgetful_arms : goal.decreases-forgetful_arms
decreases-forgetful_arms l = goal.size-forgetful_arms l

abbrev pub decreases-forgetful_statement : goal.decreases-forgetful_statement
decreases-forgetful_statement l = goal.size-forgetful_statement l

abbrev pub decreases-forgetful_branch-loop-i : goal.decreases-forgetful_branch-loop-i
decreases-forgetful_branch-loop-i l = l.i

abbrev pub decreases-forgetful_arms-loop-i : goal.decreases-forgetful_arms-loop-i
decreases-forgetful_arms-loop-i l = l.i

abbrev pub invariant-forgetful_branch-loop-i : goal.invariant-forgetful_branch-loop-i
invariant-forgetful_branch-loop-i l = record {
  place : l.i ≤ length l.block.stmts.items;
  set : marked l.set.marks ≡ before (list_of (drop l.i l.block.stmts.items)) (marked l.fn.after.marks);
  made : list_of (reverse l.reversed.items) ≡ forgetful l.count (list_of (drop l.i l.block.stmts.items)) (filled_at l.i l.block.stmts.items (marked l.fn.filled.marks)) (marked l.fn.after.marks);
}

abbrev pub invariant-forgetful_arms-loop-i : goal.invariant-forgetful_arms-loop-i
invariant-forgetful_arms-loop-i l = record {
  place : l.i ≤ length (out-Arms l.arms).arms.items;
  made : arm_list_of (reverse l.reversed.items) ≡ forgetful_arms l.count (arm_list_of (drop l.i (out-Arms l.arms).arms.items)) (marked l.old.marks) (marked l.filled.marks) (marked l.after.marks);
}
