-- Chains: `and` or `or` of tests, each of which is one operator on two terms or the opposite of that. One that asks for a
-- variable's remainder has a form of its own.
use Rattle.std.specs.Prelude.{◌≡◌, ℕ, ℤ, pos, ◌<ℤ◌, Bool, true, false, not, List, [], ◌∷◌, Result, Ok, Err, if◌then◌else◌}
use Rattle.gcl_core.specs.declared.answers.Fault.{Fault}
use Rattle.gcl_core.specs.declared.syntax.BinOp.{BinOp}
use Rattle.gcl_core.specs.declared.syntax.BinOp.TheVariants.{Rem, Eq, And, Or}
use Rattle.gcl_core.specs.meaning.Syntax.{Expression}
use Rattle.gcl_core.specs.meaning.Syntax as source
use Rattle.gcl_core.specs.meaning.Value.{State, Value, ◌>>=◌, truth_number, is_zero, value_of, applied}
use Rattle.gcl_core.specs.meaning.Bounds.{ExpressionBelow}
use Rattle.formula.specs.declared.op.Atom.TheVariants.{Var}
use Rattle.formula.specs.declared.op.Condition.{Condition}
use Rattle.formula.specs.declared.op.Condition.TheVariants.{Joined, Remainder}
use Rattle.formula.specs.declared.op.Test.{Test}
use Rattle.formula.specs.ShortTerms.{AtomReads, atom_value, TermReads, joined_value, JoinedOf}

-- the operator of the chain that this truth settles
abbrev pub link : Bool → BinOp
link false = And
link true = Or

-- the value has this truth
abbrev pub settles_at : Bool → ℤ → Bool
settles_at true v = not (is_zero v)
settles_at false v = is_zero v

abbrev pub settled_by : Bool → Value → Result Bool Fault
settled_by truth (Ok v) = Ok (settles_at truth v)
settled_by truth (Err fault) = Err fault

abbrev pub as_value : Result Bool Fault → Value
as_value (Ok truth) = Ok (truth_number truth)
as_value (Err fault) = Err fault

abbrev pub condition_value : Condition → State → Value
condition_value (Joined op t u) vars = joined_value op t u vars
condition_value (Remainder x k n) vars = applied Rem (atom_value (Var x) vars) k >>= λ r. applied Eq r n

abbrev pub ConditionReads : Condition → ℕ → Type 0
ConditionReads (Joined op t u) count = TermReads t count × TermReads u count
ConditionReads (Remainder x k n) count = AtomReads (Var x) count × (pos 0 <ℤ k)

-- a condition and the expression that it is
abbrev pub ConditionOf : Condition → Expression → Type 0
ConditionOf (Joined op t u) e = JoinedOf op t u e
ConditionOf (Remainder x k n) e =
    (pos 0 <ℤ k) × (e ≡ source.Bin Eq (source.Bin Rem (source.Var x) (source.Num k)) (source.Num n))

-- the truth that settles it where a test does, and else the other
abbrev pub chain_value : Bool → List Test → State → Value
chain_value settled [] vars = Ok (truth_number (not settled))
chain_value settled (t ∷ tests) vars = condition_value t.condition vars
    >>= λ v. if settles_at t.settles v then Ok (truth_number settled) else chain_value settled tests vars

abbrev pub ChainReads : List Test → ℕ → Type 0
ChainReads [] count = Unit {0}
ChainReads (t ∷ tests) count = ConditionReads t.condition count × ChainReads tests count

-- a test that this truth settles, and the expression that it is
pub record TestOf (settles : Bool) (t : Test) (e : Expression) : Type 0 where
  pub settles_at : t.settles ≡ settles
  pub condition : ConditionOf t.condition e

-- the number of the truth of a value
abbrev pub truth_value : Value → Value
truth_value v = v >>= λ x. Ok (truth_number (not (is_zero x)))

-- the tests of an expression within a chain
pub record AreTestsOf (settled : Bool) (tests : List Test) (e : Expression) : Type 0 where
  pub reads : (count : ℕ) → ExpressionBelow e count → ChainReads tests count
  pub value : (vars : State) → chain_value settled tests vars ≡ truth_value (value_of e vars)

-- it is the operator of the chain on two expressions
abbrev pub IsLinked : Bool → Expression → Type 0
IsLinked settled e = (a : Expression) × (b : Expression) × (e ≡ source.Bin (link settled) a b)

-- the tests of a chain
pub record IsChain (settled : Bool) (tests : List Test) (e : Expression) : Type 0 where
  pub reads : (count : ℕ) → ExpressionBelow e count → ChainReads tests count
  pub value : (vars : State) → chain_value settled tests vars ≡ value_of e vars
