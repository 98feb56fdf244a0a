-- What terms, and one operator on two of them, stand for.
use Rattle.std.proofs.Common.{◌≡◌, ℕ, ◌+◌, [], ◌∷◌, ◌++◌, refl, sym, ap, ◌∙◌, subst}
use Rattle.gcl_core.specs.declared.syntax.BinOp.{BinOp}
use Rattle.gcl_core.specs.declared.syntax.BinOp.TheVariants.{And, Or}
use Rattle.gcl_core.specs.meaning.Value.{State, value_of, ◌>>=◌, applied}
use Rattle.gcl_core.specs.meaning.Bounds.{ExpressionBelow}
use Rattle.gcl_core.specs.meaning.Syntax.{Expression}
use Rattle.gcl_core.specs.meaning.Syntax as source
use Rattle.formula.specs.declared.op.Op.TheVariants.{Bin}
use Rattle.formula.specs.declared.op.Atom.TheVariants.{Num, Var}
use Rattle.formula.specs.declared.op.Term.{Term}
use Rattle.formula.specs.declared.op.Term.TheVariants.{One, Two}
use Rattle.formula.specs.Steps.{settling, steps_between, joining, step_count, steps_at, steps_of, depth}
use Rattle.formula.specs.ShortTerms.{term_steps, term_expression, IsTerm, term_depth, TermReads, term_value, joined_steps, joined_value, JoinedOf}
use Rattle.formula.proofs.Written.{Plain}

-- ---- terms

pub term_writes : (t : Term) (i : ℕ) → IsTerm t → steps_at (term_expression t) i ≡ term_steps t
term_writes (One (Num n)) i h = refl
term_writes (One (Var x)) i h = refl
term_writes (Two And a b) i h = absurd (cc)
term_writes (Two Or a b) i h = absurd (cc)
term_writes (Two _ (Num n) (Num m)) i h = refl
term_writes (Two _ (Num n) (Var y)) i h = refl
term_writes (Two _ (Var x) (Num m)) i h = refl
term_writes (Two _ (Var x) (Var y)) i h = refl

pub term_deep : (t : Term) → IsTerm t → term_depth t ≡ depth (term_expression t)
term_deep (One (Num n)) h = refl
term_deep (One (Var x)) h = refl
term_deep (Two And a b) h = absurd (cc)
term_deep (Two Or a b) h = absurd (cc)
term_deep (Two _ (Num n) (Num m)) h = refl
term_deep (Two _ (Num n) (Var y)) h = refl
term_deep (Two _ (Var x) (Num m)) h = refl
term_deep (Two _ (Var x) (Var y)) h = refl

pub term_reads : (t : Term) (n : ℕ) → ExpressionBelow (term_expression t) n → TermReads t n
term_reads (One (Num x)) n r = tt
term_reads (One (Var x)) n r = r
term_reads (Two op (Num x) (Num y)) n r = (tt, tt)
term_reads (Two op (Num x) (Var y)) n r = (tt, r.1)
term_reads (Two op (Var x) (Num y)) n r = (r.0, tt)
term_reads (Two op (Var x) (Var y)) n r = r

-- both operands are evaluated
value_of_plain : (op : BinOp) (a b : Expression) (vars : State) → settling op 0 ≡ [] →
    (value_of a vars >>= λ x. (value_of b vars >>= λ y. applied op x y)) ≡ value_of (source.Bin op a b) vars
value_of_plain And a b vars h = absurd (cc)
value_of_plain Or a b vars h = absurd (cc)
value_of_plain _ a b vars h = refl

pub term_values : (t : Term) (vars : State) → IsTerm t → term_value t vars ≡ value_of (term_expression t) vars
term_values (One (Num x)) vars h = refl
term_values (One (Var x)) vars h = refl
term_values (Two op (Num x) (Num y)) vars h = value_of_plain op (source.Num x) (source.Num y) vars h
term_values (Two op (Num x) (Var y)) vars h = value_of_plain op (source.Num x) (source.Var y) vars h
term_values (Two op (Var x) (Num y)) vars h = value_of_plain op (source.Var x) (source.Num y) vars h
term_values (Two op (Var x) (Var y)) vars h = value_of_plain op (source.Var x) (source.Var y) vars h

-- ---- one operator on two terms

pub joined_writes : (op : BinOp) (t u : Term) → Plain op → IsTerm t → IsTerm u →
    joined_steps op t u ≡ steps_of (source.Bin op (term_expression t) (term_expression u))
joined_writes op t u p i k =
    let a = term_expression t in
    let b = term_expression u in
    let j = 0 + (step_count a + steps_between op) in
    let end = 0 + (step_count a + steps_between op + step_count b + 1) in
    ap (λ l. l ++ (term_steps u ++ Bin op ∷ [])) (sym (term_writes t 0 i))
    ∙ ap (λ l. steps_at a 0 ++ (l ++ Bin op ∷ [])) (sym (term_writes u j k))
    ∙ ap (λ o. steps_at a 0 ++ (steps_at b j ++ o ∷ [])) (sym p.joining)
    ∙ ap (λ m. steps_at a 0 ++ (m ++ (steps_at b j ++ joining op ∷ []))) (sym (p.settling end))

pub joined_below : (op : BinOp) (t u : Term) (e : Expression) (n : ℕ) → JoinedOf op t u e → ExpressionBelow e n → TermReads t n × TermReads u n
joined_below op t u e n h r =
    let both = subst (λ e. ExpressionBelow e n) h.3 r in (term_reads t n both.0, term_reads u n both.1)

pub joined_values : (op : BinOp) (t u : Term) (e : Expression) (vars : State) → JoinedOf op t u e → joined_value op t u vars ≡ value_of e vars
joined_values op t u e vars h =
    ap (λ v. v >>= λ x. (term_value u vars >>= λ y. applied op x y)) (term_values t vars h.1)
    ∙ ap (λ w. value_of (term_expression t) vars >>= λ x. (w >>= λ y. applied op x y)) (term_values u vars h.2)
    ∙ value_of_plain op (term_expression t) (term_expression u) vars h.0
    ∙ ap (λ e. value_of e vars) (sym h.3)
