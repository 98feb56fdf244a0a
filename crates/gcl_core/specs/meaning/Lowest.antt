-- Weights in lowest terms, the parts of a choice among several in lowest terms, and programs in which all are.
use Rattle.std.specs.Prelude.{ℕ, ◌/◌, List, [], ◌∷◌, map}
use Rattle.gcl_core.specs.declared.syntax.Weight.{Weight}
use Rattle.gcl_core.specs.meaning.Arms.{parts_of}
use Rattle.gcl_core.specs.meaning.Divisor.{common_divisor}
use Rattle.gcl_core.specs.meaning.Syntax.{Statement, If, While, Choice, Choose, Statements, done, ◌▸◌, ArmList, no_arm, arm, SourceProgram}

abbrev pub lowest_terms : Weight → Weight
lowest_terms w =
    record { num = w.num / common_divisor (w.num ∷ w.den ∷ []); den = w.den / common_divisor (w.num ∷ w.den ∷ []) }

abbrev pub lowest_parts : List ℕ → List ℕ
lowest_parts ps = map (λ p. p / common_divisor ps) ps

-- each part divided by d
abbrev pub divided : ℕ → ArmList → ArmList
divided d no_arm = no_arm
divided d (arm p b arms) = arm (p / d) b (divided d arms)

-- the parts in lowest terms, and the blocks as they are
abbrev pub lowest_arms : ArmList → ArmList
lowest_arms arms = divided (common_divisor (parts_of arms)) arms

-- every weight and the parts of every choice among several in lowest terms, and nothing else changed
abbrev mutual
  pub statement_in_lowest : Statement → Statement
  statement_in_lowest (If e a c) = If e (block_in_lowest a) (block_in_lowest c)
  statement_in_lowest (While e a) = While e (block_in_lowest a)
  statement_in_lowest (Choice w a c) = Choice (lowest_terms w) (block_in_lowest a) (block_in_lowest c)
  statement_in_lowest (Choose arms) = Choose (lowest_arms (arms_in_lowest arms))
  statement_in_lowest s = s

  pub block_in_lowest : Statements → Statements
  block_in_lowest done = done
  block_in_lowest (s ▸ b) = statement_in_lowest s ▸ block_in_lowest b

  pub arms_in_lowest : ArmList → ArmList
  arms_in_lowest no_arm = no_arm
  arms_in_lowest (arm p b arms) = arm p (block_in_lowest b) (arms_in_lowest arms)

abbrev pub in_lowest : SourceProgram → SourceProgram
in_lowest p = record { names = p.names; body = block_in_lowest p.body; result = p.result }
