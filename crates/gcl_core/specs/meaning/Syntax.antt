-- Programs as plain data: trees with no boxes and no vectors, over which every definition goes.
-- The statements are those of cpGCL (Bagnall, Stewart and Banerjee, PLDI 2023).
use Rattle.std.specs.Prelude.{ℕ, ℤ, Bool, List}
use Rattle.gcl_core.specs.declared.syntax.BinOp.{BinOp}
use Rattle.gcl_core.specs.declared.syntax.Weight.{Weight}
use Rattle.gcl_core.specs.text.Names.{Name}

pub data Expression : Type 0 where
  Num : ℤ → Expression
  Truth : Bool → Expression
  Var : ℕ → Expression
  Neg : Expression → Expression
  Not : Expression → Expression
  Bin : BinOp → Expression → Expression → Expression

infixr 5 ◌▸◌
mutual
  pub data Statement : Type 0 where
    Skip : Statement
    Set : ℕ → Expression → Statement
    If : Expression → Statements → Statements → Statement
    While : Expression → Statements → Statement
    Choice : Weight → Statements → Statements → Statement
    Choose : ArmList → Statement
    Uniform : ℕ → Expression → Statement
    Observe : Expression → Statement

  pub data Statements : Type 0 where
    done : Statements
    ◌▸◌ : Statement → Statements → Statements

  -- the arms of a choice among several, each with its part
  pub data ArmList : Type 0 where
    no_arm : ArmList
    arm : ℕ → Statements → ArmList → ArmList

-- a program: the names of its variables, its body, and its result
pub record SourceProgram : Type 0 where
  pub names : List Name
  pub body : Statements
  pub result : Expression
