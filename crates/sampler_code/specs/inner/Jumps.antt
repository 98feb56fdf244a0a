-- What stands in the code while the targets of some jumps are not known yet.
use Rattle.std.specs.Prelude.{ℕ, zero, suc, ◌+◌, List, [], ◌∷◌, ◌++◌}
use Rattle.draw_tree.specs.Flips.{Flips, leaf, flip}
use Rattle.bit_tree.specs.Tree.{BitTrees, done, ◌▸◌}
use Rattle.sampler_code.specs.Instruction.{Instruction, Goto, Fail}
use Rattle.sampler_code.specs.TreeCode.{size, loops, gap, tree_code, arms_code}

-- as many instructions as a draw has
abbrev pub filler : Flips → List Instruction
filler (leaf x) = Fail ∷ []
filler (flip l r) = Fail ∷ (filler l ++ filler r)

-- arms that follow another, each after a jump to le
abbrev pub more_arms : BitTrees → ℕ → ℕ → ℕ → List Instruction
more_arms done pc c le = []
more_arms (t ▸ ts) pc c le = Goto le ∷ (tree_code t (pc + 1) c ++ more_arms ts (pc + 1 + size t) (c + loops t) le)

-- where the arms begin
abbrev pub starts_of : BitTrees → ℕ → List ℕ
starts_of done pc = []
starts_of (t ▸ ts) pc = pc ∷ starts_of ts (pc + size t + gap ts)

-- the arms from the i-th on, and where they begin
abbrev pub rest_arms : ℕ → BitTrees → ℕ → ℕ → List Instruction
rest_arms zero ts pc c = arms_code ts pc c 0
rest_arms (suc i) ts pc c = more_arms ts pc c 0

abbrev pub rest_starts : ℕ → BitTrees → ℕ → List ℕ
rest_starts zero ts pc = starts_of ts pc
rest_starts (suc i) ts pc = starts_of ts (pc + 1)

-- what stands before the i-th arm at first
abbrev pub jump_before : ℕ → List Instruction
jump_before zero = []
jump_before (suc i) = Goto 0 ∷ []
