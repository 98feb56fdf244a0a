-- What the forms of a formula stand for.
use Rattle.std.proofs.Common.{arith, ◌<◌, ◌≡◌, ℕ, ◌+◌, max, List, Option, None, Some, ℤ, w64, to_z, of_z, sym, ap, ◌∙◌, subst, Bool}
use Rattle.std.specs.Global.{Vec}
use Rattle.std.proofs.lemmas.Option.{same_Some}
use Rattle.gcl_core.specs.declared.syntax.BinOp.{BinOp}
use Rattle.gcl_core.specs.meaning.Value.{State, value_of}
use Rattle.gcl_core.specs.meaning.Bounds.{ExpressionBelow}
use Rattle.gcl_core.specs.declared.syntax.BinOp.TheVariants.{Add, Lt, Eq}
use Rattle.gcl_core.specs.meaning.Syntax.{Expression}
use Rattle.gcl_core.specs.meaning.Syntax as source
use Rattle.formula.specs.declared.op.Op.{Op}
use Rattle.formula.specs.declared.op.Atom.TheVariants.{Num, Var}
use Rattle.formula.specs.declared.op.Term.{Term}
use Rattle.formula.specs.declared.op.Term.TheVariants.{One}
use Rattle.formula.specs.declared.op.Form.{Form}
use Rattle.formula.specs.declared.op.Form.TheVariants.{Plus, Less, Equal, On, Joined, Long, Chain}
use Rattle.formula.specs.declared.op.Form.TheVariants as form
use Rattle.formula.specs.Steps.{steps_of, depth}
use Rattle.formula.specs.ReadBack.{expression_in}
use Rattle.formula.specs.ShortTerms.{term_steps, term_expression, IsTerm, term_depth, TermReads, term_value, joined_value, JoinedOf, on}
use Rattle.formula.specs.Forms.{form_steps, form_depth, TermOf, FormOf}
use Rattle.formula.specs.declared.op.Test.{Test}
use Rattle.formula.specs.Chains.{chain_value, ChainReads, IsChain}
use Rattle.formula.proofs.ReadingBack.{stands_for}
use Rattle.formula.proofs.TermValues.{term_writes, term_deep, term_reads, term_values, joined_writes, joined_below, joined_values}
use Rattle.formula.proofs.Slots.{small_back}
use Rattle.formula.proofs.Written.{plain_by}

-- ---- forms

-- the term that a form is
abbrev pub term_in : Form → Option Term
term_in (form.Num n) = Some (One (Num n))
term_in (form.Var x) = Some (One (Var x))
term_in (Plus x a) = Some (on Add x a)
term_in (Less x a) = Some (on Lt x a)
term_in (Equal x a) = Some (on Eq x a)
term_in (On op x a) = Some (on op x a)
term_in (Joined op t u) = None
term_in (Long steps n) = None
term_in (Chain steps n tests settled) = None

-- some value is on the stack at some time
pub deep : (e : Expression) → 0 < depth e
deep (source.Num z) = omega arith
deep (source.Truth b) = omega arith
deep (source.Var x) = omega arith
deep (source.Neg a) = deep a
deep (source.Not a) = deep a
deep (source.Bin op a b) = let some = deep a in omega (arith, some)

short_writes : (t : Term) (e : Expression) → TermOf t e → term_steps t ≡ steps_of e
short_writes t e h = sym (term_writes t 0 h.0) ∙ ap steps_of (sym h.1)

short_deep : (t : Term) (e : Expression) → TermOf t e → term_depth t ≡ depth e
short_deep t e h = term_deep t h.0 ∙ ap depth (sym h.1)

-- a form that is a term is of the expression of the term
form_of_term : (f : Form) (t : Term) (e : Expression) → term_in f ≡ Some t → FormOf f e → TermOf t e
form_of_term (form.Num n) t e is h = subst (λ u. TermOf u e) (same_Some _ _ is) h.0
form_of_term (form.Var x) t e is h = subst (λ u. TermOf u e) (same_Some _ _ is) h
form_of_term (Plus x a) t e is h = subst (λ u. TermOf u e) (same_Some _ _ is) h
form_of_term (Less x a) t e is h = subst (λ u. TermOf u e) (same_Some _ _ is) h
form_of_term (Equal x a) t e is h = subst (λ u. TermOf u e) (same_Some _ _ is) h
form_of_term (On op x a) t e is h = subst (λ u. TermOf u e) (same_Some _ _ is) h
form_of_term (Joined op t u) v e is h = absurd (cc)
form_of_term (Long steps n) t e is h = absurd (cc)
form_of_term (Chain steps n tests settled) t e is h = absurd (cc)

-- a form holds the steps
pub form_writes : (f : Form) (e : Expression) → FormOf f e → form_steps f ≡ steps_of e
form_writes (form.Num n) e h = short_writes (One (Num n)) e h.0
form_writes (form.Var x) e h = short_writes (One (Var x)) e h
form_writes (Plus x a) e h = short_writes (on Add x a) e h
form_writes (Less x a) e h = short_writes (on Lt x a) e h
form_writes (Equal x a) e h = short_writes (on Eq x a) e h
form_writes (On op x a) e h = short_writes (on op x a) e h
form_writes (Joined op t u) e h = joined_writes op t u (plain_by op h.0) h.1 h.2 ∙ ap steps_of (sym h.3)
form_writes (Long steps n) e h = h.0
form_writes (Chain steps n tests settled) e h = h.0

pub form_reads : (f : Form) (e : Expression) → FormOf f e → expression_in (form_steps f) ≡ e
form_reads f e h = ap expression_in (form_writes f e h) ∙ stands_for e

form_deep : (f : Form) (e : Expression) → FormOf f e → form_depth f ≡ depth e
form_deep (form.Num n) e h = short_deep (One (Num n)) e h.0
form_deep (form.Var x) e h = short_deep (One (Var x)) e h
form_deep (Plus x a) e h = short_deep (on Add x a) e h
form_deep (Less x a) e h = short_deep (on Lt x a) e h
form_deep (Equal x a) e h = short_deep (on Eq x a) e h
form_deep (On op x a) e h = short_deep (on op x a) e h
form_deep (Joined op t u) e h =
    let p = plain_by op h.0 in
    ap (λ m. max m (term_depth u + 1)) (term_deep t h.1)
    ∙ ap (λ m. max (depth (term_expression t)) (m + 1)) (term_deep u h.2)
    ∙ ap (λ k. max (depth (term_expression t)) (depth (term_expression u) + k)) (sym p.kept)
    ∙ ap depth (sym h.3)
form_deep (Long steps n) e h = h.1
form_deep (Chain steps n tests settled) e h = h.1

-- ---- as a formula holds them

module _ (f : Form) (e : Expression) (h : FormOf f e) (s : List Op) (view : form_steps f ≡ s) where
  pub stands : expression_in s ≡ e
  stands = ap expression_in (sym view) ∙ form_reads f e h

  pub written : s ≡ steps_of (expression_in s)
  written = sym view ∙ form_writes f e h ∙ ap steps_of (sym stands)

  pub depth_in : form_depth f ≡ depth (expression_in s)
  depth_in = form_deep f e h ∙ ap depth (sym stands)

  -- its number is written and read back
  pub num_back : (n : ℤ) → f ≡ form.Num n → to_z w64 (of_z w64 n) ≡ n
  num_back n is = small_back n (subst (λ f. FormOf f e) is h).1

  pub short_is : (t : Term) → term_in f ≡ Some t → IsTerm t × (term_expression t ≡ expression_in s)
  short_is t is = let g = form_of_term f t e is h in (g.0, sym (stands ∙ g.1))

  pub short_reads : (t : Term) (n : ℕ) → term_in f ≡ Some t → ExpressionBelow (expression_in s) n → TermReads t n
  short_reads t n is r = term_reads t n (subst (λ e. ExpressionBelow e n) (sym (short_is t is).1) r)

  pub short_value : (t : Term) (vars : State) → term_in f ≡ Some t → term_value t vars ≡ value_of (expression_in s) vars
  short_value t vars is = term_values t vars (short_is t is).0 ∙ ap (λ e. value_of e vars) (short_is t is).1

  joined_form : (op : BinOp) (t u : Term) → f ≡ Joined op t u → JoinedOf op t u e
  joined_form op t u is = subst (λ f. FormOf f e) is h

  pub joined_is : (op : BinOp) (t u : Term) → f ≡ Joined op t u → expression_in s ≡ source.Bin op (term_expression t) (term_expression u)
  joined_is op t u is = stands ∙ (joined_form op t u is).3

  pub joined_reads : (op : BinOp) (t u : Term) (n : ℕ) → f ≡ Joined op t u → ExpressionBelow (expression_in s) n → TermReads t n × TermReads u n
  joined_reads op t u n is r = joined_below op t u e n (joined_form op t u is) (subst (λ e. ExpressionBelow e n) stands r)

  pub joined_value_in : (op : BinOp) (t u : Term) (vars : State) → f ≡ Joined op t u → joined_value op t u vars ≡ value_of (expression_in s) vars
  joined_value_in op t u vars is = joined_values op t u e vars (joined_form op t u is) ∙ ap (λ e. value_of e vars) (sym stands)

  chain_form : (steps : Vec Op) (n : ℕ) (tests : Vec Test) (settled : Bool) → f ≡ Chain steps n tests settled → IsChain settled tests.items (expression_in s)
  chain_form steps n tests settled is = subst (λ e. IsChain settled tests.items e) (sym stands) (subst (λ f. FormOf f e) is h).2

  pub chain_reads : (steps : Vec Op) (n : ℕ) (tests : Vec Test) (settled : Bool) (count : ℕ) → f ≡ Chain steps n tests settled →
      ExpressionBelow (expression_in s) count → ChainReads tests.items count
  chain_reads steps n tests settled count is r = (chain_form steps n tests settled is).reads count r

  pub chain_value_in : (steps : Vec Op) (n : ℕ) (tests : Vec Test) (settled : Bool) (vars : State) → f ≡ Chain steps n tests settled →
      chain_value settled tests.items vars ≡ value_of (expression_in s) vars
  chain_value_in steps n tests settled vars is = (chain_form steps n tests settled is).value vars
