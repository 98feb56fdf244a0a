-- The steps of an expression are read back as the expression.
use Rattle.std.proofs.Common.{◌≡◌, ℕ, ◌+◌, List, [], ◌∷◌, ◌++◌, Some, refl, sym, ap, ◌∙◌, append_assoc}
use Rattle.std.proofs.lemmas.List.{append-nil}
use Rattle.gcl_core.specs.declared.syntax.BinOp.{BinOp}
use Rattle.gcl_core.specs.declared.syntax.BinOp.TheVariants.{Add, Sub, Mul, Div, Rem, Eq, Ne, Lt, Le, Gt, Ge, And, Or}
use Rattle.gcl_core.specs.meaning.Syntax.{Expression}
use Rattle.gcl_core.specs.meaning.Syntax as source
use Rattle.formula.specs.declared.op.Op.{Op}
use Rattle.formula.specs.declared.op.Op.TheVariants.{Neg, Not}
use Rattle.formula.specs.Steps.{settling, steps_between, joining, step_count, steps_at, steps_of}
use Rattle.formula.specs.ReadBack.{read, or_false, expression_in}
use Rattle.formula.proofs.Lists.{regroup}

abbrev pending : BinOp → List BinOp → List BinOp
pending And p = And ∷ p
pending Or p = Or ∷ p
pending _ p = p

read_between : (op : BinOp) (t : ℕ) (r : List Op) (p : List BinOp) (a : Expression) (s : List Expression) →
    read (settling op t ++ r) p (a ∷ s) ≡ read r (pending op p) (a ∷ s)
unfolding read
read_between And t r p a s = refl
read_between Or t r p a s = refl
read_between _ t r p a s = refl

read_joining : (op : BinOp) (r : List Op) (p : List BinOp) (a b : Expression) (s : List Expression) →
    read (joining op ∷ r) (pending op p) (b ∷ (a ∷ s)) ≡ read r p (source.Bin op a b ∷ s)
unfolding read
read_joining And r p a b s = refl
read_joining Or r p a b s = refl
read_joining Add r p a b s = refl
read_joining Sub r p a b s = refl
read_joining Mul r p a b s = refl
read_joining Div r p a b s = refl
read_joining Rem r p a b s = refl
read_joining Eq r p a b s = refl
read_joining Ne r p a b s = refl
read_joining Lt r p a b s = refl
read_joining Le r p a b s = refl
read_joining Gt r p a b s = refl
read_joining Ge r p a b s = refl

pub read_steps : (e : Expression) (i : ℕ) (r : List Op) (p : List BinOp) (s : List Expression) →
    read (steps_at e i ++ r) p s ≡ read r p (e ∷ s)
unfolding read
read_steps (source.Num z) i r p s = refl
read_steps (source.Truth b) i r p s = refl
read_steps (source.Var x) i r p s = refl
read_steps (source.Neg a) i r p s = ap (λ l. read l p s) (append_assoc (steps_at a i) (Neg ∷ []) r) ∙ read_steps a i (Neg ∷ r) p s
read_steps (source.Not a) i r p s = ap (λ l. read l p s) (append_assoc (steps_at a i) (Not ∷ []) r) ∙ read_steps a i (Not ∷ r) p s
read_steps (source.Bin op a b) i r p s =
    let t = i + (step_count a + steps_between op + step_count b + 1) in
    let j = i + (step_count a + steps_between op) in
    let B = steps_at b j in
    ap (λ l. read l p s) (regroup (steps_at a i) (settling op t) B (joining op) r)
    ∙ read_steps a i (settling op t ++ (B ++ joining op ∷ r)) p s
    ∙ read_between op t (B ++ joining op ∷ r) p a s
    ∙ read_steps b j (joining op ∷ r) (pending op p) (a ∷ s)
    ∙ read_joining op r p a b s

pub reads_whole : (e : Expression) → read (steps_of e) [] [] ≡ Some e
unfolding read
reads_whole e = ap (λ l. read l [] []) (sym (append-nil (steps_of e))) ∙ read_steps e 0 [] [] []

-- the expression in the steps of an expression is that expression
pub stands_for : (e : Expression) → expression_in (steps_of e) ≡ e
stands_for e = ap or_false (reads_whole e)

pub stands_as : (steps : List Op) (e : Expression) → steps ≡ steps_of e → expression_in steps ≡ e
stands_as steps e h = ap expression_in h ∙ stands_for e
