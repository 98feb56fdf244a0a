-- Programs as they are written: a number of an expression is not below 0, since the sign `-` stands before it as an operator.
-- This project's own rule.
use Rattle.std.specs.Prelude.{◌≡◌, ℕ, ℤ, pos}
use Rattle.gcl_core.specs.meaning.Bounds.{ExpressionNumbers, StatementNumbers, BlockNumbers, ArmsNumbers, ProgramNumbers}
use Rattle.gcl_core.specs.meaning.Syntax.{Expression, Statement, Statements, ArmList, SourceProgram}

-- the number is not below 0
pub record IsNotNegative (z : ℤ) : Type 0 where
  pub digits : ℕ
  pub is : z ≡ pos digits

-- no number of an expression, a statement, a block, some arms or a program is
abbrev pub ExpressionHasNoNegative : Expression → Type 0
ExpressionHasNoNegative = ExpressionNumbers IsNotNegative

abbrev pub StatementHasNoNegative : Statement → Type 0
StatementHasNoNegative = StatementNumbers IsNotNegative

abbrev pub BlockHasNoNegative : Statements → Type 0
BlockHasNoNegative = BlockNumbers IsNotNegative

abbrev pub ArmsHaveNoNegative : ArmList → Type 0
ArmsHaveNoNegative = ArmsNumbers IsNotNegative

abbrev pub HasNoNegative : SourceProgram → Type 0
HasNoNegative = ProgramNumbers IsNotNegative
