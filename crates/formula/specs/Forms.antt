-- Forms, as steps, and the expressions that they are of.
use Rattle.std.specs.Prelude.{◌≡◌, ℕ, List, IsTrue, ◌+◌, max}
use Rattle.gcl_core.specs.declared.syntax.BinOp.TheVariants.{Add, Lt, Eq}
use Rattle.gcl_core.specs.meaning.Syntax.{Expression}
use Rattle.gcl_core.specs.meaning.Value.{fits_64}
use Rattle.formula.specs.declared.op.Op.{Op}
use Rattle.formula.specs.declared.op.Atom.TheVariants.{Num, Var}
use Rattle.formula.specs.declared.op.Term.{Term}
use Rattle.formula.specs.declared.op.Term.TheVariants.{One}
use Rattle.formula.specs.declared.op.Form.{Form}
use Rattle.formula.specs.declared.op.Form.TheVariants.{Plus, Less, Equal, On, Joined, Long, Chain}
use Rattle.formula.specs.declared.op.Form.TheVariants as form
use Rattle.formula.specs.ShortTerms.{term_steps, term_expression, IsTerm, term_depth, joined_steps, JoinedOf, on}
use Rattle.formula.specs.Steps.{steps_of, depth}
use Rattle.formula.specs.Chains.{IsChain}

abbrev pub form_steps : Form → List Op
form_steps (form.Num n) = term_steps (One (Num n))
form_steps (form.Var x) = term_steps (One (Var x))
form_steps (Plus x a) = term_steps (on Add x a)
form_steps (Less x a) = term_steps (on Lt x a)
form_steps (Equal x a) = term_steps (on Eq x a)
form_steps (On op x a) = term_steps (on op x a)
form_steps (Joined op t u) = joined_steps op t u
form_steps (Long steps n) = steps.items
form_steps (Chain steps n tests settled) = steps.items

-- the greatest number of values on the stack while they run
abbrev pub form_depth : Form → ℕ
form_depth (form.Num n) = 1
form_depth (form.Var x) = 1
form_depth (Plus x a) = 2
form_depth (Less x a) = 2
form_depth (Equal x a) = 2
form_depth (On op x a) = 2
form_depth (Joined op t u) = max (term_depth t) (term_depth u + 1)
form_depth (Long steps n) = n
form_depth (Chain steps n tests settled) = n

-- a term and the expression that it is
abbrev pub TermOf : Term → Expression → Type 0
TermOf t e = IsTerm t × (e ≡ term_expression t)

-- a form without steps is of the expression e itself, and its number has 64 bits; another holds its depth
abbrev pub FormOf : Form → Expression → Type 0
FormOf (form.Num n) e = TermOf (One (Num n)) e × IsTrue (fits_64 n)
FormOf (form.Var x) e = TermOf (One (Var x)) e
FormOf (Plus x a) e = TermOf (on Add x a) e
FormOf (Less x a) e = TermOf (on Lt x a) e
FormOf (Equal x a) e = TermOf (on Eq x a) e
FormOf (On op x a) e = TermOf (on op x a) e
FormOf (Joined op t u) e = JoinedOf op t u e
FormOf (Long steps n) e = (steps.items ≡ steps_of e) × (n ≡ depth e)
FormOf (Chain steps n tests settled) e = (steps.items ≡ steps_of e) × (n ≡ depth e) × IsChain settled tests.items e
