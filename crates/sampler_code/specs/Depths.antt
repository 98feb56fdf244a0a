-- How deep a stack the expressions of code need.
use Rattle.std.specs.Prelude.{ℕ, max, List, [], ◌∷◌}
use Rattle.formula.specs.Steps.{depth}
use Rattle.sampler_code.specs.Instruction.{Instruction, Set, Range, Unless, Goto, Arm, Loop, Tries, Flip, Again, Fail, Return}

abbrev pub depth_of : Instruction → ℕ
depth_of (Set x e) = depth e
depth_of (Range x e) = depth e
depth_of (Unless e t) = depth e
depth_of (Goto t) = 0
depth_of (Arm c) = 0
depth_of (Loop c t e) = depth e
depth_of Tries = 0
depth_of (Flip t) = 0
depth_of (Again t) = 0
depth_of Fail = 0
depth_of (Return e) = depth e

abbrev pub greatest_depth : List Instruction → ℕ
greatest_depth [] = 0
greatest_depth (i ∷ is) = max (depth_of i) (greatest_depth is)
