-- Steps as lists.
use Rattle.std.proofs.Common.{◌≡◌, ℕ, ◌+◌, List, [], ◌∷◌, ◌++◌, length, refl, ap, ◌∙◌, arith, append_assoc, length-append}
use Rattle.gcl_core.specs.declared.syntax.BinOp.{BinOp}
use Rattle.gcl_core.specs.declared.syntax.BinOp.TheVariants.{And, Or}
use Rattle.gcl_core.specs.meaning.Syntax.{Expression}
use Rattle.gcl_core.specs.meaning.Syntax as source
use Rattle.formula.specs.declared.op.Op.{Op}
use Rattle.formula.specs.declared.op.Op.TheVariants.{Neg, Not}
use Rattle.formula.specs.Steps.{settling, steps_between, joining, step_count, steps_at}

pub regroup : (A M B : List Op) (j : Op) (r : List Op) → (A ++ (M ++ (B ++ j ∷ []))) ++ r ≡ A ++ (M ++ (B ++ j ∷ r))
regroup A M B j r = simp append_assoc

between_length : (op : BinOp) (t : ℕ) → length (settling op t) ≡ steps_between op
between_length And t = refl
between_length Or t = refl
between_length _ t = refl

pub steps_length : (e : Expression) (i : ℕ) → length (steps_at e i) ≡ step_count e
steps_length (source.Num z) i = refl
steps_length (source.Truth b) i = refl
steps_length (source.Var x) i = refl
steps_length (source.Neg a) i = length-append (steps_at a i) (Neg ∷ []) ∙ ap (λ n. n + 1) (steps_length a i)
steps_length (source.Not a) i = length-append (steps_at a i) (Not ∷ []) ∙ ap (λ n. n + 1) (steps_length a i)
steps_length (source.Bin op a b) i =
    let t = i + (step_count a + steps_between op + step_count b + 1) in
    let j = i + (step_count a + steps_between op) in
    let A = steps_at a i in
    let M = settling op t in
    let B = steps_at b j in
    let last = joining op ∷ [] in
    omega (arith, length-append A (M ++ (B ++ last)), length-append M (B ++ last), length-append B last, between_length op t, steps_length a i, steps_length b j)
