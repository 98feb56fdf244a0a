-- The steps of an expression. They are this project's own.
use Rattle.std.specs.Prelude.{ℕ, ◌+◌, max, List, [], ◌∷◌, ◌++◌}
use Rattle.gcl_core.specs.declared.syntax.BinOp.{BinOp}
use Rattle.gcl_core.specs.declared.syntax.BinOp.TheVariants.{And, Or}
use Rattle.gcl_core.specs.meaning.Syntax.{Expression}
use Rattle.gcl_core.specs.meaning.Syntax as source
use Rattle.formula.specs.declared.op.Op.{Op}
use Rattle.formula.specs.declared.op.Op.TheVariants.{Push, Truth, Load, Neg, Not, Bin, AndSkip, OrSkip, Settle}

-- between two operands: where the left one settles the result, on to the index t
abbrev pub settling : BinOp → ℕ → List Op
settling And t = AndSkip t ∷ []
settling Or t = OrSkip t ∷ []
settling _ t = []

-- how many steps these are
abbrev pub steps_between : BinOp → ℕ
steps_between And = 1
steps_between Or = 1
steps_between _ = 0

-- how many values lie below those of the right operand
abbrev pub kept : BinOp → ℕ
kept And = 0
kept Or = 0
kept _ = 1

-- after both operands
abbrev pub joining : BinOp → Op
joining And = Settle
joining Or = Settle
joining op = Bin op

-- how many steps
abbrev pub step_count : Expression → ℕ
step_count (source.Num z) = 1
step_count (source.Truth b) = 1
step_count (source.Var x) = 1
step_count (source.Neg a) = step_count a + 1
step_count (source.Not a) = step_count a + 1
step_count (source.Bin op a b) = step_count a + steps_between op + step_count b + 1

-- The steps that begin at the index i: left, right, operator. Indices count from the first step of the whole expression.
abbrev pub steps_at : Expression → ℕ → List Op
steps_at (source.Num z) i = Push z ∷ []
steps_at (source.Truth b) i = Truth b ∷ []
steps_at (source.Var x) i = Load x ∷ []
steps_at (source.Neg a) i = steps_at a i ++ Neg ∷ []
steps_at (source.Not a) i = steps_at a i ++ Not ∷ []
steps_at (source.Bin op a b) i =
    steps_at a i ++ (settling op (i + (step_count a + steps_between op + step_count b + 1))
    ++ (steps_at b (i + (step_count a + steps_between op)) ++ joining op ∷ []))

abbrev pub steps_of : Expression → List Op
steps_of e = steps_at e 0

-- the greatest number of values on the stack while they run
abbrev pub depth : Expression → ℕ
depth (source.Num z) = 1
depth (source.Truth b) = 1
depth (source.Var x) = 1
depth (source.Neg a) = depth a
depth (source.Not a) = depth a
depth (source.Bin op a b) = max (depth a) (depth b + kept op)
