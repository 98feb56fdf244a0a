use Rattle.std.proofs.Common.{drop}
use Rattle.gcl_core.specs.meaning.Views.{list_of, arm_list_of}
use Rattle.scaled_fold.proofs.MostReads.{BlockLeft, ArmsLeft}
use Rattle.scaled_fold.proofs.longest.+longest.Given as goal

abbrev pub invariant-block_reads-loop-statement : goal.invariant-block_reads-loop-statement
invariant-block_reads-loop-statement l = BlockLeft l.turns (list_of l.statement-items) (list_of (drop l.statement-index l.statement-items)) l.all

abbrev pub invariant-arms_read-loop-block : goal.invariant-arms_read-loop-block
invariant-arms_read-loop-block l = ArmsLeft l.turns (arm_list_of l.block-items) (arm_list_of (drop l.block-index l.block-items)) l.all
