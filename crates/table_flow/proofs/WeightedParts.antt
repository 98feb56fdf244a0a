-- The parts of a block by weight.
use Rattle.std.proofs.Common.{ℕ, ℤ, Option}
use Rattle.gcl_core.specs.meaning.Syntax.{ArmList}
use Rattle.gcl_core.specs.meaning.Value.{State, Value}
use Rattle.gcl_core.specs.meaning.Blocks.{End, value_in, loop_in, uniform_in, arm_in}
use Rattle.gcl_core.specs.weighing.WeightedEnds.{Weighted, sure, end_weighted, draw_weighted}

-- with a value; a fault ends the block
abbrev pub value_weighted : Value → (ℤ → Weighted End) → Weighted End
value_weighted = value_in sure end_weighted

-- x is set to a number below the bound v
abbrev pub uniform_weighted : Option ℕ → (x : ℕ) (v : ℤ) → State → Weighted End
uniform_weighted r = uniform_in sure end_weighted (draw_weighted r)

-- at most t turns of a loop
abbrev pub loop_weighted : (State → Value) → (State → Weighted End) → ℕ → State → Weighted End
loop_weighted = loop_in sure end_weighted

-- the arm with a number
abbrev pub arm_weighted : ℕ → Option ℕ → ArmList → ℕ → State → Weighted End
arm_weighted n r = arm_in sure end_weighted (draw_weighted r) (λ m. m) n
