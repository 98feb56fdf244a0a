-- Stacks whose top is the last of a vector, and steps that are read back on them.
use Rattle.std.proofs.Common.{◌≡◌, ◌<◌, List, [], ◌∷◌, ◌++◌, length, Some, refl, sym, ap, ◌∙◌, arith}
use Rattle.gcl_core.specs.declared.syntax.BinOp.{BinOp}
use Rattle.gcl_core.specs.declared.syntax.Expr.{Expr}
use Rattle.gcl_core.specs.meaning.Syntax.{Expression}
use Rattle.gcl_core.specs.meaning.Views.{expression_of}
use Rattle.formula.specs.declared.op.Op.{Op}
use Rattle.formula.specs.declared.op.Op.TheVariants.{Push, Truth, Load, Neg, Not, Bin, AndSkip, OrSkip, Settle}
use Rattle.formula.specs.inner.OneRead.{stack_on, stacked, waiting, OnTwo, Readable, HasRead}
use Rattle.formula.specs.ReadBack.{read}

stack_push : {X Y : Type 0} (f : X → Y) (xs : List X) (x : X) (s : List Y) → stack_on f (xs ++ x ∷ []) s ≡ f x ∷ stack_on f xs s
stack_push f [] x s = refl
stack_push f (y ∷ xs) x s = stack_push f xs x (f y ∷ s)

pub stacked_push : (xs : List Expr) (x : Expr) → stacked (xs ++ x ∷ []) ≡ expression_of x ∷ stacked xs
stacked_push xs x = stack_push expression_of xs x []

pub waiting_push : (xs : List BinOp) (x : BinOp) → waiting (xs ++ x ∷ []) ≡ x ∷ waiting xs
waiting_push xs x = stack_push (λ op. op) xs x []

-- on a stack with two tops
on_two : (f : Expression → Expression → Expression) (p : List BinOp) (q : List BinOp) (s t : List Expression) (r : List Op) → OnTwo f s t → 1 < length s
on_two f p q [] t r h = absurd h
on_two f p q (b ∷ []) t r h = absurd h
on_two f p q (b ∷ (a ∷ s)) t r h = omega arith

pub readable : (op : Op) (r : List Op) (p : List BinOp) (s : List Expression) (e : Expression) → read (op ∷ r) p s ≡ Some e → Readable op p s
unfolding read
readable (Push z) r p s e h = tt
readable (Truth b) r p s e h = tt
readable (Load x) r p s e h = tt
readable Neg r p [] e h = absurd (cc)
readable Neg r p (a ∷ s) e h = omega arith
readable Not r p [] e h = absurd (cc)
readable Not r p (a ∷ s) e h = omega arith
readable (Bin op) r p [] e h = absurd (cc)
readable (Bin op) r p (b ∷ []) e h = absurd (cc)
readable (Bin op) r p (b ∷ (a ∷ s)) e h = omega arith
readable (AndSkip t) r p [] e h = absurd (cc)
readable (AndSkip t) r p (a ∷ s) e h = omega arith
readable (OrSkip t) r p [] e h = absurd (cc)
readable (OrSkip t) r p (a ∷ s) e h = omega arith
readable Settle r [] s e h = absurd (cc)
readable Settle r (op ∷ p) [] e h = absurd (cc)
readable Settle r (op ∷ p) (b ∷ []) e h = absurd (cc)
readable Settle r (op ∷ p) (b ∷ (a ∷ s)) e h = (omega arith, omega arith)

same_read : (r : List Op) (p q : List BinOp) (s t : List Expression) → q ≡ p → t ≡ s → read r q t ≡ read r p s
same_read r p q s t e f = ap (λ q. read r q t) e ∙ ap (λ t. read r p t) f

pub has_read : (op : Op) (r : List Op) (p q : List BinOp) (s t : List Expression) (e : Expression) → read (op ∷ r) p s ≡ Some e → HasRead op p q s t →
    read r q t ≡ Some e
unfolding read
has_read (Push z) r p q s t e h i = same_read r _ q _ t i.0 i.1 ∙ h
has_read (Truth b) r p q s t e h i = same_read r _ q _ t i.0 i.1 ∙ h
has_read (Load x) r p q s t e h i = same_read r _ q _ t i.0 i.1 ∙ h
has_read Neg r p q [] t e h i = absurd (cc)
has_read Neg r p q (a ∷ s) t e h i = same_read r _ q _ t i.0 i.1 ∙ h
has_read Not r p q [] t e h i = absurd (cc)
has_read Not r p q (a ∷ s) t e h i = same_read r _ q _ t i.0 i.1 ∙ h
has_read (Bin op) r p q [] t e h i = absurd (cc)
has_read (Bin op) r p q (b ∷ []) t e h i = absurd (cc)
has_read (Bin op) r p q (b ∷ (a ∷ s)) t e h i = same_read r _ q _ t i.0 i.1 ∙ h
has_read (AndSkip u) r p q [] t e h i = absurd (cc)
has_read (AndSkip u) r p q (a ∷ s) t e h i = same_read r _ q _ t i.0 i.1 ∙ h
has_read (OrSkip u) r p q [] t e h i = absurd (cc)
has_read (OrSkip u) r p q (a ∷ s) t e h i = same_read r _ q _ t i.0 i.1 ∙ h
has_read Settle r [] q s t e h i = absurd (cc)
has_read Settle r (op ∷ p) q [] t e h i = absurd (cc)
has_read Settle r (op ∷ p) q (b ∷ []) t e h i = absurd (cc)
has_read Settle r (op ∷ p) q (b ∷ (a ∷ s)) t e h i = same_read r _ q _ t i.0 i.1 ∙ h

first_read : (p : List BinOp) (s : List Expression) (e : Expression) → read [] p s ≡ Some e → s ≡ e ∷ []
unfolding read
first_read [] [] e h = absurd (cc)
first_read [] (a ∷ []) e h = cc
first_read [] (a ∷ (b ∷ s)) e h = absurd (cc)
first_read (op ∷ p) s e h = absurd (cc)

pub all_read : (r : List Op) (p : List BinOp) (s : List Expression) (e : Expression) → r ≡ [] → read r p s ≡ Some e → s ≡ e ∷ []
all_read r p s e is h = first_read p s e (ap (λ r. read r p s) (sym is) ∙ h)

pub same_first : (a b : Expression) (s t : List Expression) → a ∷ s ≡ b ∷ t → a ≡ b
same_first a b s t e = cc
