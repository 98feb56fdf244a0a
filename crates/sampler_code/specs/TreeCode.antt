-- The flat code of a tree, by which the compiler makes that of a program. Both are the same, so nobody has to believe this one.
use Rattle.std.specs.Prelude.{ℕ, zero, suc, ◌+◌, List, [], ◌∷◌, ◌++◌, Some, None}
use Rattle.draw_tree.specs.Flips.{Flips, leaf, flip}
use Rattle.bit_tree.specs.Tree.{BitTree, BitTrees, done, ◌▸◌, TiedTree}
use Rattle.bit_tree.specs.Tree as bt
use Rattle.sampler_code.specs.Assembled.{Assembled}
use Rattle.sampler_code.specs.Instruction.{Instruction, Set, Range, Unless, Goto, Arm, Loop, Tries, Flip, Again, Fail, Return}

-- ---- how many instructions

abbrev pub flips_size : Flips → ℕ
flips_size (leaf x) = 1
flips_size (flip l r) = 1 + flips_size l + flips_size r

-- each arm but the last is followed by a jump
abbrev pub gap : BitTrees → ℕ
gap done = 0
gap (t ▸ ts) = 1

abbrev mutual
  pub size : BitTree → ℕ
  size bt.Fail = 1
  size (bt.Set x e) = 1
  size (bt.Range x e) = 1
  size (bt.Test e a b) = 2 + size a + size b
  size (bt.Pick d arms) = 1 + flips_size d + arms_size arms
  size (bt.Row ts) = row_size ts
  size (bt.Fix e a) = 3 + size a

  pub row_size : BitTrees → ℕ
  row_size done = 0
  row_size (t ▸ ts) = size t + row_size ts

  pub arms_size : BitTrees → ℕ
  arms_size done = 0
  arms_size (t ▸ ts) = size t + gap ts + arms_size ts

-- ---- how many loops

abbrev mutual
  pub loops : BitTree → ℕ
  loops bt.Fail = 0
  loops (bt.Set x e) = 0
  loops (bt.Range x e) = 0
  loops (bt.Test e a b) = loops a + loops b
  loops (bt.Pick d arms) = row_loops arms
  loops (bt.Row ts) = row_loops ts
  loops (bt.Fix e a) = 1 + loops a

  pub row_loops : BitTrees → ℕ
  row_loops done = 0
  row_loops (t ▸ ts) = loops t + row_loops ts

-- ---- the code that begins at the index pc, its loops numbered from c

-- where the arm of label i begins, the arms beginning at pc; there is one for each label
abbrev pub arm_start : BitTrees → ℕ → ℕ → ℕ
arm_start done pc i = pc
arm_start (t ▸ ts) pc zero = pc
arm_start (t ▸ ts) pc (suc i) = arm_start ts (pc + size t + gap ts) i

-- a draw whose attempts begin at the index `first`
abbrev pub flips_code : ℕ → (ℕ → ℕ) → Flips → ℕ → List Instruction
flips_code first start (leaf (Some i)) pc = Goto (start i) ∷ []
flips_code first start (leaf None) pc = Again first ∷ []
flips_code first start (flip l r) pc =
    Flip (pc + 1 + flips_size l) ∷ (flips_code first start l (pc + 1) ++ flips_code first start r (pc + 1 + flips_size l))

abbrev pub goto_end : BitTrees → ℕ → List Instruction
goto_end done end = []
goto_end (t ▸ ts) end = Goto end ∷ []

abbrev mutual
  pub tree_code : BitTree → ℕ → ℕ → List Instruction
  tree_code bt.Fail pc c = Fail ∷ []
  tree_code (bt.Set x e) pc c = Set x e ∷ []
  tree_code (bt.Range x e) pc c = Range x e ∷ []
  tree_code (bt.Test e a b) pc c =
      Unless e (pc + 2 + size a)
      ∷ (tree_code a (pc + 1) c ++ (Goto (pc + 2 + size a + size b) ∷ tree_code b (pc + 2 + size a) (c + loops a)))
  tree_code (bt.Pick d arms) pc c =
      Tries
      ∷ (flips_code (pc + 1) (arm_start arms (pc + 1 + flips_size d)) d (pc + 1)
      ++ arms_code arms (pc + 1 + flips_size d) c (pc + 1 + flips_size d + arms_size arms))
  tree_code (bt.Row ts) pc c = row_code ts pc c
  tree_code (bt.Fix e a) pc c =
      Arm c ∷ (Goto (pc + 2 + size a) ∷ (tree_code a (pc + 2) (c + 1) ++ (Loop c (pc + 2) e ∷ [])))

  pub row_code : BitTrees → ℕ → ℕ → List Instruction
  row_code done pc c = []
  row_code (t ▸ ts) pc c = tree_code t pc c ++ row_code ts (pc + size t) (c + loops t)

  -- the arms, which go on at the index `end`
  pub arms_code : BitTrees → ℕ → ℕ → ℕ → List Instruction
  arms_code done pc c end = []
  arms_code (t ▸ ts) pc c end =
      tree_code t pc c ++ (goto_end ts end ++ arms_code ts (pc + size t + gap ts) (c + loops t) end)

-- the code of the body, followed by the return of the result
abbrev pub tied_code : TiedTree → List Instruction
tied_code p = tree_code p.body 0 0 ++ (Return p.result ∷ [])

abbrev pub assembled : TiedTree → Assembled
assembled t = record { instrs = tied_code t; loops = loops t.body; vars = t.vars }
