-- What a block does from a state. Its statements say it once, for whatever it is done in: on a list of bits, as the end of this
-- page has it, or by weight, as WeightedEnds has it. The statements are those of cpGCL; the limits are this project's own rule.
use Rattle.std.specs.Prelude.{ℕ, zero, suc, ℤ, pos, negsuc, Bool, List, Option, Some, None, Ok, Err, if◌then◌else◌, slice_set}
use Rattle.gcl_core.specs.declared.answers.Fault.{Fault}
use Rattle.gcl_core.specs.declared.answers.Fault.TheVariants.{BadBound}
use Rattle.gcl_core.specs.declared.answers.Limit.{Limit}
use Rattle.gcl_core.specs.declared.answers.Limit.TheVariants.{Turns, Attempts}
use Rattle.gcl_core.specs.meaning.Arms.{parts_of}
use Rattle.gcl_core.specs.meaning.Parts.{partial_sums}
use Rattle.gcl_core.specs.meaning.Syntax.{Statement, Skip, Set, If, While, Choice, Choose, Uniform, Observe, Statements, done, ◌▸◌, ArmList, no_arm, arm}
use Rattle.gcl_core.specs.meaning.Value.{State, Value, value_of, is_zero}
use Rattle.gcl_core.specs.meaning.Reading.{Reading, gives, after}
use Rattle.gcl_core.specs.meaning.Draw.{draw_on, choice_ends, uniform_ends}

-- how a block ends: with a state, or by a failed observation, a fault or a limit; no block ends at the limit of rounds
pub data End : Type 0 where
  on : State → End
  failed : End
  fault : Fault → End
  limit : Limit → End

-- ---- going on by cases

-- with a value; a fault stops
abbrev pub by_value : {A : Type 0} → Value → (Fault → A) → (ℤ → A) → A
by_value (Ok v) stop go = go v
by_value (Err f) stop go = stop f

-- the first where a number is not 0, the second where it is
abbrev pub by_truth : {A : Type 0} → ℤ → A → A → A
by_truth v a c = if is_zero v then c else a

-- with a bound of at least 1; any other stops
abbrev pub by_bound : {A : Type 0} → ℤ → A → (ℕ → A) → A
by_bound (pos zero) stop go = stop
by_bound (pos (suc m)) stop go = go (suc m)
by_bound (negsuc m) stop go = stop

-- with a class; where no attempt gave one it stops
abbrev pub by_class : {A : Type 0} → Option ℕ → A → (ℕ → A) → A
by_class None stop go = stop
by_class (Some i) stop go = go i

-- the first at class 0, else the second
abbrev pub by_side : {A : Type 0} → ℕ → A → A → A
by_side zero a c = a
by_side (suc i) a c = c

-- with a state; every other end stops
abbrev pub by_end : {A : Type 0} → End → (End → A) → (State → A) → A
by_end (on s) stop go = go s
by_end failed stop go = stop failed
by_end (fault f) stop go = stop (fault f)
by_end (limit l) stop go = stop (limit l)

-- ---- statements

-- M is what something is done in. In it:
--   end e        ends at once, by the end e;
--   go_on m k    does m, and goes on with k s where m ends in a state s; every other end of m is the end of it all;
--   draw cs k    draws a class, where cs are the ends of the classes, and goes on with k i where it is class i;
--   turn m       does m as one turn of a loop.
module _ {M : Type 0} (end : End → M) (go_on : M → (State → M) → M) where
  -- with a value; a fault ends the block
  abbrev pub value_in : Value → (ℤ → M) → M
  value_in v k = by_value v (λ f. end (fault f)) k

  -- At most t turns of a loop: its guard is evaluated before each, and where it is found true once more the turns have run out.
  abbrev pub loop_in : (State → Value) → (State → M) → ℕ → State → M
  loop_in guard body zero s = value_in (guard s) (λ v. by_truth v (end (limit Turns)) (end (on s)))
  loop_in guard body (suc t) s = value_in (guard s) (λ v. by_truth v (go_on (body s) (loop_in guard body t)) (end (on s)))

  module _ (draw : List ℕ → (ℕ → M) → M) where
    -- x is set to a number below the bound v, each with the same weight
    abbrev pub uniform_in : (x : ℕ) (v : ℤ) → State → M
    uniform_in x v s = by_bound v (end (fault BadBound)) (λ m. draw (uniform_ends m) (λ i. end (on (slice_set s x (pos i)))))

    -- under a limit of n turns for each entry of a loop
    module _ (turn : M → M) (n : ℕ) where
      abbrev mutual
        pub statement_in : Statement → State → M
        statement_in Skip s = end (on s)
        statement_in (Set x e) s = value_in (value_of e s) (λ v. end (on (slice_set s x v)))
        statement_in (Observe e) s = value_in (value_of e s) (λ v. by_truth v (end (on s)) (end failed))
        statement_in (If e a c) s = value_in (value_of e s) (λ v. by_truth v (block_in a s) (block_in c s))
        statement_in (Choice p a c) s = draw (choice_ends p) (λ i. by_side i (block_in a s) (block_in c s))
        statement_in (Choose arms) s = draw (partial_sums (parts_of arms)) (λ i. arm_in arms i s)
        statement_in (Uniform x e) s = value_in (value_of e s) (λ v. uniform_in x v s)
        statement_in (While e a) s = loop_in (value_of e) (λ s. turn (block_in a s)) n s

        pub block_in : Statements → State → M
        block_in done s = end (on s)
        block_in (st ▸ b) s = go_on (statement_in st s) (block_in b)

        -- the arm with this number; a draw gives no number that none has
        pub arm_in : ArmList → ℕ → State → M
        arm_in no_arm i s = end (on s)
        arm_in (arm p b arms) zero s = block_in b s
        arm_in (arm p b arms) (suc i) s = arm_in arms i s

-- ---- on a list of bits: how a block ends, with the bits that are left, or that it needs more bits

-- with the state in which a part of the block ends; every other end of it is the block's
abbrev pub end_on : Reading End → (State → List Bool → Reading End) → Reading End
end_on x go = after x (λ e rest. by_end e (λ e. gives e rest) (λ s. go s rest))

-- with the class that a draw gives; where no attempt gave one, the limit of attempts ends the block
abbrev pub class_on : Reading (Option ℕ) → (ℕ → List Bool → Reading End) → Reading End
class_on x go = after x (λ class rest. by_class class (gives (limit Attempts) rest) (λ i. go i rest))

abbrev pub go_on_bits : (List Bool → Reading End) → (State → List Bool → Reading End) → List Bool → Reading End
go_on_bits m go w = end_on (m w) go

-- by at most r attempts
abbrev pub draw_on_bits : ℕ → List ℕ → (ℕ → List Bool → Reading End) → List Bool → Reading End
draw_on_bits r cs go w = class_on (draw_on cs r w) go

-- under limits of n turns for each entry of a loop and r attempts for each draw
abbrev pub statement_on : (n r : ℕ) → Statement → State → List Bool → Reading End
statement_on n r = statement_in gives go_on_bits (draw_on_bits r) (λ m. m) n

abbrev pub block_on : (n r : ℕ) → Statements → State → List Bool → Reading End
block_on n r = block_in gives go_on_bits (draw_on_bits r) (λ m. m) n
