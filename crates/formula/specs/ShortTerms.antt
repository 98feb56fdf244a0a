-- Terms: a number, a variable, or one operator on two of these, as steps; and one operator on two terms.
use Rattle.std.specs.Prelude.{◌≡◌, ℕ, ◌<◌, ℤ, pos, List, [], ◌∷◌, ◌++◌, Ok, slice_index_or}
use Rattle.gcl_core.specs.declared.syntax.BinOp.{BinOp}
use Rattle.gcl_core.specs.meaning.Syntax.{Expression}
use Rattle.gcl_core.specs.meaning.Syntax as source
use Rattle.gcl_core.specs.meaning.Value.{State, Value, ◌>>=◌, applied}
use Rattle.formula.specs.declared.op.Op.{Op}
use Rattle.formula.specs.declared.op.Op.TheVariants.{Push, Load, Bin}
use Rattle.formula.specs.declared.op.Atom.{Atom}
use Rattle.formula.specs.declared.op.Atom.TheVariants.{Num, Var}
use Rattle.formula.specs.declared.op.Term.{Term}
use Rattle.formula.specs.declared.op.Term.TheVariants.{One, Two}
use Rattle.formula.specs.Steps.{settling}

abbrev pub atom_step : Atom → Op
atom_step (Num n) = Push n
atom_step (Var x) = Load x

abbrev pub atom_expression : Atom → Expression
atom_expression (Num n) = source.Num n
atom_expression (Var x) = source.Var x

abbrev pub AtomReads : Atom → ℕ → Type 0
AtomReads (Num n) count = Unit {0}
AtomReads (Var x) count = x < count

abbrev pub atom_value : Atom → State → ℤ
atom_value (Num n) vars = n
atom_value (Var x) vars = slice_index_or vars x (pos 0)

abbrev pub term_steps : Term → List Op
term_steps (One a) = atom_step a ∷ []
term_steps (Two op a b) = atom_step a ∷ (atom_step b ∷ (Bin op ∷ []))

abbrev pub term_expression : Term → Expression
term_expression (One a) = atom_expression a
term_expression (Two op a b) = source.Bin op (atom_expression a) (atom_expression b)

-- its operator is neither `and` nor `or`
abbrev pub IsTerm : Term → Type 0
IsTerm (One a) = Unit {0}
IsTerm (Two op a b) = settling op 0 ≡ []

-- the greatest number of values on the stack while its steps run
abbrev pub term_depth : Term → ℕ
term_depth (One a) = 1
term_depth (Two op a b) = 2

abbrev pub TermReads : Term → ℕ → Type 0
TermReads (One a) count = AtomReads a count
TermReads (Two op a b) count = AtomReads a count × AtomReads b count

abbrev pub term_value : Term → State → Value
term_value (One a) vars = Ok (atom_value a vars)
term_value (Two op a b) vars = applied op (atom_value a vars) (atom_value b vars)

-- one operator on two terms
abbrev pub joined_steps : BinOp → Term → Term → List Op
joined_steps op t u = term_steps t ++ (term_steps u ++ Bin op ∷ [])

abbrev pub joined_value : BinOp → Term → Term → State → Value
joined_value op t u vars = term_value t vars >>= λ x. (term_value u vars >>= λ y. applied op x y)

-- one operator, neither `and` nor `or`, on two terms and the expression that it is
abbrev pub JoinedOf : BinOp → Term → Term → Expression → Type 0
JoinedOf op t u e =
    (settling op 0 ≡ []) × IsTerm t × IsTerm u × (e ≡ source.Bin op (term_expression t) (term_expression u))

-- one operator on a variable and an atom
abbrev pub on : BinOp → ℕ → Atom → Term
on op x a = Two op (Var x) a
