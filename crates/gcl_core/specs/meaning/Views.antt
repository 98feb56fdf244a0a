-- The plain data that the values of the code stand for. Trees are compared by it, and by nothing else.
use Rattle.std.specs.Prelude.{ℕ, List, [], ◌∷◌}
use Rattle.gcl_core.specs.declared.syntax.Program.{Program}
use Rattle.gcl_core.specs.declared.syntax.Expr.{Expr}
use Rattle.gcl_core.specs.declared.syntax.Expr.TheVariants as expr
use Rattle.gcl_core.specs.declared.syntax.Block.{Block}
use Rattle.gcl_core.specs.declared.syntax.Arms.{Arms, Arms', out-Arms, Row_of-Arms-arms-2, end_of-Arms-arms-2, more_of-Arms-arms-2}
use Rattle.gcl_core.specs.declared.syntax.Stmt.{Stmt, Row_of-Stmt, end_of-Stmt, more_of-Stmt}
use Rattle.gcl_core.specs.declared.syntax.Stmt.TheVariants as stmt
use Rattle.gcl_core.specs.meaning.Syntax.{Expression, Num, Truth, Var, Neg, Not, Bin, Statement, Skip, Set, If, While, Choice, Choose, Uniform, Observe, Statements, done, ◌▸◌, ArmList, no_arm, arm, SourceProgram}

abbrev pub expression_of : Expr → Expression
expression_of (expr.Num z) = Num z
expression_of (expr.Truth b) = Truth b
expression_of (expr.Var x) = Var x
expression_of (expr.Neg' _ a) = Neg (expression_of a)
expression_of (expr.Not' _ a) = Not (expression_of a)
expression_of (expr.Bin' op _ a _ b) = Bin op (expression_of a) (expression_of b)

-- a row is how the logic holds the statements of a block inside a statement
unfoldable mutual
  pub statement_of : Stmt → Statement
  statement_of stmt.Skip = Skip
  statement_of (stmt.Set x e) = Set x (expression_of e)
  statement_of (stmt.If' e _ a _ c) = If (expression_of e) (row_of a) (row_of c)
  statement_of (stmt.While' e _ a) = While (expression_of e) (row_of a)
  statement_of (stmt.Choice' w _ a _ c) = Choice w (row_of a) (row_of c)
  statement_of (stmt.Choose arms) = Choose (arms_of arms)
  statement_of (stmt.Uniform x e) = Uniform x (expression_of e)
  statement_of (stmt.Observe e) = Observe (expression_of e)

  pub row_of : {n : _} → Row_of-Stmt n → Statements
  row_of end_of-Stmt = done
  row_of (more_of-Stmt s rest) = statement_of s ▸ row_of rest

  pub arms_of : Arms → ArmList
  arms_of (Arms' _ arms) = arm_row_of arms

  pub arm_row_of : {n : _} → Row_of-Arms-arms-2 n → ArmList
  arm_row_of end_of-Arms-arms-2 = no_arm
  arm_row_of (more_of-Arms-arms-2 p _ b rest) = arm p (row_of b) (arm_row_of rest)

abbrev pub list_of : List Stmt → Statements
list_of [] = done
list_of (s ∷ ss) = statement_of s ▸ list_of ss

abbrev pub statements_of : Block → Statements
statements_of b = list_of b.stmts.items

abbrev pub arm_list_of : List (ℕ × Block) → ArmList
arm_list_of [] = no_arm
arm_list_of (a ∷ arms) = arm a.0 (statements_of a.1) (arm_list_of arms)

abbrev pub list_of_arms : Arms → ArmList
list_of_arms a = arm_list_of (out-Arms a).arms.items

abbrev pub source_of : Program → SourceProgram
source_of p = record { names = p.names; body = statements_of p.body; result = expression_of p.result }
