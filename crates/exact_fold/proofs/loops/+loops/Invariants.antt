use Rattle.std.proofs.Common.{◌≡◌, drop}
use Rattle.std.specs.List.{list_any}
use Rattle.gcl_core.specs.text.ReadingOrder.{arms_listed}
use Rattle.gcl_core.specs.meaning.Views.{list_of, arm_list_of}
use Rattle.exact_fold.specs.Loops.{is_loop, any_loops}
use Rattle.exact_fold.proofs.loops.+loops.Given as goal

abbrev pub invariant-arms_loop-loop-block : goal.invariant-arms_loop-loop-block
invariant-arms_loop-loop-block l = list_any is_loop (arms_listed (arm_list_of (drop l.block-index l.block-items))) ≡ list_any is_loop (arms_listed (arm_list_of l.block-items))

abbrev pub invariant-block_loops-loop-statement : goal.invariant-block_loops-loop-statement
invariant-block_loops-loop-statement l = any_loops (list_of (drop l.statement-index l.statement-items)) ≡ any_loops (list_of l.statement-items)
