use Rattle.std.proofs.Common.{◌≡◌, ◌++◌, drop, map}
use Rattle.sampler_code.specs.Targets.{target_of}
use Rattle.sampler_code.specs.Views.{instructions_of}
use Rattle.sampler_code.proofs.instructions.targets.Given as goal

abbrev pub invariant-loop-instr : goal.invariant-loop-instr
invariant-loop-instr l = l.targets.items ++ map target_of (instructions_of (drop l.instr-index l.instrs)) ≡ map target_of (instructions_of l.instrs)
