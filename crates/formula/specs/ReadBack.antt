-- The expression that steps stand for, read back from them.
use Rattle.std.specs.Prelude.{false, List, [], ◌∷◌, Option, Some, None}
use Rattle.gcl_core.specs.declared.syntax.BinOp.{BinOp}
use Rattle.gcl_core.specs.declared.syntax.BinOp.TheVariants.{And, Or}
use Rattle.gcl_core.specs.meaning.Syntax.{Expression}
use Rattle.gcl_core.specs.meaning.Syntax as source
use Rattle.formula.specs.declared.op.Op.{Op}
use Rattle.formula.specs.declared.op.Op.TheVariants.{Push, Truth, Load, Neg, Not, Bin, AndSkip, OrSkip, Settle}

-- on a stack of expressions, and of the operators whose left operands were read
unfoldable pub read : List Op → List BinOp → List Expression → Option Expression
read [] [] (e ∷ []) = Some e
read [] _ _ = None
read (Push z ∷ r) p s = read r p (source.Num z ∷ s)
read (Truth b ∷ r) p s = read r p (source.Truth b ∷ s)
read (Load x ∷ r) p s = read r p (source.Var x ∷ s)
read (Neg ∷ r) p (a ∷ s) = read r p (source.Neg a ∷ s)
read (Not ∷ r) p (a ∷ s) = read r p (source.Not a ∷ s)
read (Bin op ∷ r) p (b ∷ (a ∷ s)) = read r p (source.Bin op a b ∷ s)
read (AndSkip t ∷ r) p (a ∷ s) = read r (And ∷ p) (a ∷ s)
read (OrSkip t ∷ r) p (a ∷ s) = read r (Or ∷ p) (a ∷ s)
read (Settle ∷ r) (op ∷ p) (b ∷ (a ∷ s)) = read r p (source.Bin op a b ∷ s)
read _ _ _ = None

abbrev pub or_false : Option Expression → Expression
or_false (Some e) = e
or_false None = source.Truth false

-- of a list that is no expression's, the truth false
abbrev pub expression_in : List Op → Expression
expression_in steps = or_false (read steps [] [])
