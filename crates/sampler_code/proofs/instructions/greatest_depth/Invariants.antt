use Rattle.std.proofs.Common.{◌≡◌, max, drop}
use Rattle.sampler_code.specs.Depths.{greatest_depth}
use Rattle.sampler_code.specs.Views.{instructions_of}
use Rattle.sampler_code.proofs.instructions.greatest_depth.Given as goal

abbrev pub invariant-loop-instr : goal.invariant-loop-instr
invariant-loop-instr l = max l.depth (greatest_depth (instructions_of (drop l.instr-index l.instrs))) ≡ greatest_depth (instructions_of l.instrs)
