use Rattle.sampler_code.proofs.GreatestDepth.{greatest_more, greatest_all}
use Rattle.sampler_code.proofs.instructions.greatest_depth.Goals as goal

pub loop-instr-preserved : goal.loop-instr-preserved
loop-instr-preserved c =
    greatest_more c.args.instrs.now c.loop-instr.instr-index c.loop-instr.depth c.max-depth.result c.depth.result c.instr-item.result c.loop-instr-test.true c.instr-item.is c.depth.ensures c.max-depth.ensures c.loop-instr.invariant

pub returns : goal.returns
returns c = greatest_all c.args.instrs.now c.loop-instr.instr-index c.loop-instr.depth c.loop-instr-test.false c.loop-instr.invariant
