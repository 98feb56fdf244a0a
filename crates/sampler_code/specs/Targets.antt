-- The index that an instruction names, or 0 where it names none.
use Rattle.std.specs.Prelude.{ℕ}
use Rattle.sampler_code.specs.Instruction.{Instruction, Set, Range, Unless, Goto, Arm, Loop, Tries, Flip, Again, Fail, Return}

abbrev pub target_of : Instruction → ℕ
target_of (Set x e) = 0
target_of (Range x e) = 0
target_of (Unless e t) = t
target_of (Goto t) = t
target_of (Arm c) = 0
target_of (Loop c t e) = t
target_of Tries = 0
target_of (Flip t) = t
target_of (Again t) = t
target_of Fail = 0
target_of (Return e) = 0
