-- One step of reading back.
use Rattle.std.specs.Prelude.{◌≡◌, ◌<◌, List, [], ◌∷◌, length}
use Rattle.gcl_core.specs.declared.syntax.BinOp.{BinOp}
use Rattle.gcl_core.specs.declared.syntax.Expr.{Expr}
use Rattle.gcl_core.specs.meaning.Views.{expression_of}
use Rattle.gcl_core.specs.declared.syntax.BinOp.TheVariants.{And, Or}
use Rattle.gcl_core.specs.meaning.Syntax.{Expression}
use Rattle.gcl_core.specs.meaning.Syntax as source
use Rattle.formula.specs.declared.op.Op.{Op}
use Rattle.formula.specs.declared.op.Op.TheVariants.{Push, Truth, Load, Neg, Not, Bin, AndSkip, OrSkip, Settle}

-- the last first, before a further stack
abbrev pub stack_on : {X Y : Type 0} → (X → Y) → List X → List Y → List Y
stack_on f [] s = s
stack_on f (x ∷ xs) s = stack_on f xs (f x ∷ s)

abbrev pub stacked : List Expr → List Expression
stacked items = stack_on expression_of items []

abbrev pub waiting : List BinOp → List BinOp
waiting items = stack_on (λ op. op) items []

abbrev pub OnTop : (Expression → Expression) → List Expression → List Expression → Type 0
OnTop f [] new = ⊥
OnTop f (a ∷ s) new = new ≡ f a ∷ s

abbrev pub OnTwo : (Expression → Expression → Expression) → List Expression → List Expression → Type 0
OnTwo f [] new = ⊥
OnTwo f (b ∷ []) new = ⊥
OnTwo f (b ∷ (a ∷ s)) new = new ≡ f a b ∷ s

-- enough is there
abbrev pub Readable : Op → List BinOp → List Expression → Type 0
Readable (Push z) p s = Unit {0}
Readable (Truth b) p s = Unit {0}
Readable (Load x) p s = Unit {0}
Readable Neg p s = 0 < length s
Readable Not p s = 0 < length s
Readable (Bin op) p s = 1 < length s
Readable (AndSkip t) p s = 0 < length s
Readable (OrSkip t) p s = 0 < length s
Readable Settle p s = (0 < length p) × (1 < length s)

abbrev pub Resumes : List BinOp → List BinOp → List Expression → List Expression → Type 0
Resumes [] q s t = ⊥
Resumes (op ∷ p) q s t = (q ≡ p) × OnTwo (source.Bin op) s t

abbrev pub HasRead : Op → List BinOp → List BinOp → List Expression → List Expression → Type 0
HasRead (Push z) p q s t = (q ≡ p) × (t ≡ source.Num z ∷ s)
HasRead (Truth b) p q s t = (q ≡ p) × (t ≡ source.Truth b ∷ s)
HasRead (Load x) p q s t = (q ≡ p) × (t ≡ source.Var x ∷ s)
HasRead Neg p q s t = (q ≡ p) × OnTop source.Neg s t
HasRead Not p q s t = (q ≡ p) × OnTop source.Not s t
HasRead (Bin op) p q s t = (q ≡ p) × OnTwo (source.Bin op) s t
HasRead (AndSkip u) p q s t = (q ≡ And ∷ p) × (t ≡ s)
HasRead (OrSkip u) p q s t = (q ≡ Or ∷ p) × (t ≡ s)
HasRead Settle p q s t = Resumes p q s t
