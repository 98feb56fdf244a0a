-- How steps run on a stack of values, the top first. They are stuck where a value or a variable is missing, the stack is full, or
-- a target does not lie further on.
use Rattle.std.specs.Prelude.{◌≡◌, ◌≤◌, ℕ, zero, suc, ◌+◌, ◌-◌, ℤ, pos, neg_ℤ, not, List, [], ◌∷◌, length, Option, Some, None, Result, Ok, Err, nat_lt, slice_index_or, if◌then◌else◌}
use Rattle.gcl_core.specs.declared.answers.Fault.{Fault}
use Rattle.gcl_core.specs.meaning.Value.{State, Value, truth_number, is_zero, within_64, applied}
use Rattle.formula.specs.declared.running.Point.{Point}
use Rattle.gcl_core.specs.meaning.Bounds.{ExpressionBelow}
use Rattle.gcl_core.specs.meaning.Syntax.{Expression}
use Rattle.formula.specs.Steps.{steps_of, depth}
use Rattle.formula.specs.declared.op.Op.{Op}
use Rattle.formula.specs.declared.op.Op.TheVariants.{Push, Truth, Load, Neg, Not, Bin, AndSkip, OrSkip, Settle}

-- ---- values in slots as a stack

-- the values below the top, from the n-th slot down to the first
abbrev pub under : List ℤ → ℕ → List ℤ
under slots zero = []
under slots (suc n) = slice_index_or slots (suc n) (pos 0) ∷ under slots n

-- a stack of n values
abbrev pub values : ℤ → ℕ → List ℤ → List ℤ
values top zero slots = []
values top (suc n) slots = top ∷ under slots n

-- a value that is left in the first slot, or its fault
abbrev pub Leaves : Result (Unit {0}) Fault → List ℤ → Value → Type 0
Leaves (Ok u) slots v = Ok (slice_index_or slots 0 (pos 0)) ≡ v
Leaves (Err fault) slots v = Err fault ≡ v

-- the steps of some expression whose variables are there, and whose values have room
abbrev pub StandFor : List Op → ℕ → ℕ → Type 0
StandFor steps vars room = (e : Expression) × (steps ≡ steps_of e) × ExpressionBelow e vars × (depth e ≤ room)

-- ---- one step

-- What one step leads to: past a number of the next steps, with these values; or to a fault.
pub data Moved : Type 0 where
  on : ℕ → List ℤ → Moved
  fails : Fault → Moved
  stuck : Moved

abbrev pub with_top : Value → List ℤ → Moved
with_top (Ok v) s = on 0 (v ∷ s)
with_top (Err fault) s = fails fault

abbrev pub pushed : ℕ → ℤ → List ℤ → Moved
pushed room v s = if nat_lt (length s) room then on 0 (v ∷ s) else stuck

-- from the index i on to t
abbrev pub on_to : ℕ → ℕ → List ℤ → Moved
on_to i t s = if nat_lt i t then on (t - (i + 1)) s else stuck

abbrev pub move : ℕ → State → Op → ℕ → List ℤ → Moved
move room vars (Push n) i s = pushed room n s
move room vars (Truth b) i s = pushed room (truth_number b) s
move room vars (Load x) i s = if nat_lt x (length vars) then pushed room (slice_index_or vars x (pos 0)) s else stuck
move room vars Neg i [] = stuck
move room vars Neg i (x ∷ s) = with_top (within_64 (neg_ℤ x)) s
move room vars Not i [] = stuck
move room vars Not i (x ∷ s) = on 0 (truth_number (is_zero x) ∷ s)
move room vars (Bin op) i [] = stuck
move room vars (Bin op) i (y ∷ []) = stuck
move room vars (Bin op) i (y ∷ (x ∷ s)) = with_top (applied op x y) s
move room vars (AndSkip t) i [] = stuck
move room vars (AndSkip t) i (x ∷ s) = if is_zero x then on_to i t (x ∷ s) else on 0 s
move room vars (OrSkip t) i [] = stuck
move room vars (OrSkip t) i (x ∷ s) = if is_zero x then on 0 s else on_to i t (pos 1 ∷ s)
move room vars Settle i [] = stuck
move room vars Settle i (x ∷ s) = on 0 (truth_number (not (is_zero x)) ∷ s)

abbrev pub after_move : Moved → (ℕ → List ℤ → Option Value) → Option Value
after_move (on k s) go = go k s
after_move (fails fault) go = Some (Err fault)
after_move stuck go = None

-- one value is left
abbrev pub the_one_value : List ℤ → Option Value
the_one_value [] = None
the_one_value (v ∷ []) = Some (Ok v)
the_one_value (v ∷ (w ∷ s)) = None

-- the steps from the index i on, but for the first k
unfoldable pub run : ℕ → State → ℕ → ℕ → List Op → List ℤ → Option Value
run room vars i k [] s = the_one_value s
run room vars i (suc k) (op ∷ r) s = run room vars (i + 1) k r s
run room vars i zero (op ∷ r) s = after_move (move room vars op i s) (λ k t. run room vars (i + 1) k r t)

-- what a step came to, from the index i on, with values in slots
abbrev pub CameTo : Moved → ℕ → List ℤ → Result Point Fault → Type 0
CameTo (on k s) i slots (Ok p) = (p.at ≡ i + 1 + k) × (values p.top p.held slots ≡ s)
CameTo (on k s) i slots (Err fault) = ⊥
CameTo (fails fault) i slots (Ok p) = ⊥
CameTo (fails fault) i slots (Err f) = f ≡ fault
CameTo stuck i slots r = ⊥

abbrev pub Goes : Moved → Type 0
Goes (on k s) = Unit {0}
Goes (fails fault) = Unit {0}
Goes stuck = ⊥
