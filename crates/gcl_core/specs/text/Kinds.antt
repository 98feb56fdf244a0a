-- The kind of an expression, a number or a truth, and whether each operand in it has the kind that its operator takes.
-- The expressions are those of cpGCL; that no number stands for a truth in a program's text is this project's own rule.
use Rattle.std.specs.Prelude.{Bool, true, false, ◌&&◌}
use Rattle.gcl_core.specs.declared.syntax.BinOp.{BinOp}
use Rattle.gcl_core.specs.declared.syntax.BinOp.TheVariants.{Add, Sub, Mul, Div, Rem, And, Or}
use Rattle.gcl_core.specs.declared.kinds.Kind.{Kind}
use Rattle.gcl_core.specs.declared.kinds.Kind.TheVariants.{Number, Truth}
use Rattle.gcl_core.specs.meaning.Syntax.{Expression}
use Rattle.gcl_core.specs.meaning.Syntax as source

-- what an operator takes on either side
abbrev pub operand_kind : BinOp → Kind
operand_kind And = Truth
operand_kind Or = Truth
operand_kind _ = Number

-- what an operator makes
abbrev pub result_kind : BinOp → Kind
result_kind Add = Number
result_kind Sub = Number
result_kind Mul = Number
result_kind Div = Number
result_kind Rem = Number
result_kind _ = Truth

abbrev pub same_kind : Kind → Kind → Bool
same_kind Number Number = true
same_kind Truth Truth = true
same_kind _ _ = false

-- the expression is of this kind, and so are all operands in it of the kinds that they have to be
abbrev pub has_kind : Kind → Expression → Bool
has_kind k (source.Num z) = same_kind k Number
has_kind k (source.Var x) = same_kind k Number
has_kind k (source.Truth b) = same_kind k Truth
has_kind k (source.Neg a) = same_kind k Number && has_kind Number a
has_kind k (source.Not a) = same_kind k Truth && has_kind Truth a
has_kind k (source.Bin op a b) = same_kind k (result_kind op) && has_kind (operand_kind op) a && has_kind (operand_kind op) b
