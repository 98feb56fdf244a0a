-- The tables that a program goes through, and how many states stand in one of them. It is what the weighted ends of a block are,
-- statement by statement: a table of states at each point, in place of the ends from one state.
use Rattle.std.specs.Prelude.{ℕ, zero, suc, ◌-◌, pos, max, Bool, false, not, List, [], ◌∷◌, ◌++◌, map, Option, length, slice_set}
use Rattle.std.specs.List.{filter, sum}
use Rattle.std.specs.Ordering.{int_eq}
use Rattle.std.specs.Set.{distinct_count}
use Rattle.std.specs.Cmp.Lexicographic.{pointwise}
use Rattle.gcl_core.specs.declared.answers.Fault.TheVariants.{BadBound}
use Rattle.gcl_core.specs.declared.answers.Limit.TheVariants.{Turns, Attempts}
use Rattle.gcl_core.specs.meaning.Arms.{parts_of}
use Rattle.gcl_core.specs.meaning.Draw.{choice_ends, uniform_ends}
use Rattle.gcl_core.specs.meaning.Parts.{partial_sums}
use Rattle.gcl_core.specs.meaning.Syntax.{Statement, Skip, Set, If, While, Choice, Choose, Uniform, Observe, Statements, done, ◌▸◌, ArmList, no_arm, arm, SourceProgram}
use Rattle.gcl_core.specs.meaning.Value.{State, Value, value_of, is_zero}
use Rattle.gcl_core.specs.meaning.Blocks.{End, failed, fault, limit, by_value, by_bound}
use Rattle.gcl_core.specs.meaning.Outcomes.{zeros}
use Rattle.gcl_core.specs.weighing.Fractions.{Fraction}
use Rattle.gcl_core.specs.weighing.WeightedEnds.{Weighted, sure, scaled, class_weight, no_class_weight}

-- a list of states, each with its weight; a state may stand in it more than once
abbrev pub Table : Type 0
Table = Weighted State

-- draws by their ends, each with the weight with which it is reached
abbrev pub ReachedDraws : Type 0
ReachedDraws = Weighted (List ℕ)

-- what becomes of a table in a block: the table after it, the entries that ended, all tables on the way, the weights of the draws made,
-- and the draws that are reached. An entry of a table is an X, and one that ended a Y.
pub record FlowOf (X Y : Type 0) : Type 0 where
  pub next : List X
  pub ended : List Y
  pub tables : List (List X)
  pub draws : List Fraction
  pub reached : ReachedDraws

abbrev pub Flow : Type 0
Flow = FlowOf (Fraction × State) (Fraction × End)

-- ---- parts of a table

-- whether a guard holds in a state, or does not; neither where it is a fault
abbrev pub holds : (State → Value) → State → Bool
holds guard s = by_value (guard s) (λ f. false) (λ v. not (is_zero v))

abbrev pub fails : (State → Value) → State → Bool
fails guard s = by_value (guard s) (λ f. false) is_zero

-- ---- draws

-- the weight of one part of a draw with b parts, and of no class
abbrev pub draw_weights : ℕ → Option ℕ → List Fraction
draw_weights b r = class_weight b r 1 ∷ (no_class_weight b r ∷ [])

-- the same for each entry
abbrev pub draws_each : List Fraction → Table → List Fraction
draws_each ws [] = []
draws_each ws (e ∷ I) = ws ++ draws_each ws I

-- ---- any kind of weight

-- an entry by itself: its state, the same weight in another state, and the same weight as ended in some way
pub record Entries (X Y : Type 0) : Type 0 where
  pub state : X → State
  pub moved_to : State → X → X
  pub as_end : End → X → Y

-- What a walk asks of a kind of weight: how a table is written down before a statement, and at the head of a loop; what a class of c
-- of b numbers gets in a draw by at most r attempts, and what no attempt decides; which weights such a draw shows; and
-- the draws that a table reaches, by their ends.
pub record Kind (X Y : Type 0) : Type 0 where
  pub entries : Entries X Y
  pub tidy : List X → List X
  pub at_loop : List X → List (List X)
  pub class : ℕ → Option ℕ → ℕ → List X → List X
  pub rest : ℕ → Option ℕ → List X → List X
  pub shown : ℕ → Option ℕ → List X → List Fraction
  pub reached : List ℕ → List X → ReachedDraws

-- tables on the way, states that go on, and some that ended; no draw
abbrev pub stands : {X Y : Type 0} → List (List X) → List X → List Y → FlowOf X Y
stands Js J Z = record { next = J; ended = Z; tables = Js; draws = []; reached = [] }

abbrev pub no_flow : {X Y : Type 0} → FlowOf X Y
no_flow = stands [] [] []

-- two flows beside each other
abbrev pub beside : {X Y : Type 0} → FlowOf X Y → FlowOf X Y → FlowOf X Y
beside f g = record {
  next = f.next ++ g.next;
  ended = f.ended ++ g.ended;
  tables = f.tables ++ g.tables;
  draws = f.draws ++ g.draws;
  reached = f.reached ++ g.reached;
}

-- a flow, and that from where it led
abbrev pub behind : {X Y : Type 0} → FlowOf X Y → FlowOf X Y → FlowOf X Y
behind f g = record {
  next = g.next;
  ended = f.ended ++ g.ended;
  tables = f.tables ++ g.tables;
  draws = f.draws ++ g.draws;
  reached = f.reached ++ g.reached;
}

module _ {X Y : Type 0} (x : Entries X Y) where
  -- the states that pass a test
  abbrev pub only_go : (State → Bool) → List X → List X
  only_go test J = filter (λ e. test (x.state e)) J

  -- the faults of an expression
  abbrev pub faults_go : (State → Value) → List X → List Y
  faults_go v [] = []
  faults_go v (e ∷ J) = by_value (v (x.state e)) (λ f. x.as_end (fault f) e ∷ faults_go v J) (λ z. faults_go v J)

  -- all states end in this way
  abbrev pub end_go : End → List X → List Y
  end_go end J = map (λ e. x.as_end end e) J

  -- a variable set to the value of an expression, but for the faults
  abbrev pub set_go : ℕ → (State → Value) → List X → List X
  set_go i v [] = []
  set_go i v (e ∷ J) = by_value (v (x.state e)) (λ f. set_go i v J) (λ z. x.moved_to (slice_set (x.state e) i z) e ∷ set_go i v J)

  -- a variable set to each number below m
  abbrev pub below_go : ℕ → ℕ → List X → List X
  below_go i zero J = []
  below_go i (suc m) J = below_go i m J ++ map (λ e. x.moved_to (slice_set (x.state e) i (pos m)) e) J

  -- at most t turns of a loop, from the table J on
  abbrev pub loop_go : (List X → List (List X)) → (State → Value) → (List X → FlowOf X Y) → ℕ → List X → FlowOf X Y
  loop_go seen guard body zero J =
      stands (seen J) (only_go (fails guard) J) (faults_go guard J ++ end_go (limit Turns) (only_go (holds guard) J))
  loop_go seen guard body (suc t) J =
      let f = body (only_go (holds guard) J) in
      beside (stands (seen J) (only_go (fails guard) J) (faults_go guard J)) (behind f (loop_go seen guard body t f.next))

module _ {X Y : Type 0} (k : Kind X Y) (r : Option ℕ) where
  -- a draw by these ends, among b numbers, with what goes on behind it: no attempt decides it
  abbrev pub draw_go : ℕ → List ℕ → List X → List X → FlowOf X Y
  draw_go b ends next J = record {
    next = next;
    ended = end_go k.entries (limit Attempts) (k.rest b r J);
    tables = [];
    draws = k.shown b r J;
    reached = k.reached ends J;
  }

  -- from one state, a variable set to each number below a value, if it is no fault and there is such a number
  abbrev pub number_go : ℕ → Value → X → FlowOf X Y
  number_go i o e =
      by_value o (λ f. stands [] [] (k.entries.as_end (fault f) e ∷ []))
      (λ z. by_bound z (stands [] [] (k.entries.as_end (fault BadBound) e ∷ []))
      (λ m. draw_go m (uniform_ends m) (below_go k.entries i m (k.class m r 1 (e ∷ []))) (e ∷ [])))

  -- the same from each state of a table, by an expression
  abbrev pub uniform_go : ℕ → (State → Value) → List X → FlowOf X Y
  uniform_go i v [] = no_flow
  uniform_go i v (e ∷ J) = beside (number_go i (v (k.entries.state e)) e) (uniform_go i v J)

-- under a limit of n turns, and of r attempts or none
module _ {X Y : Type 0} (k : Kind X Y) (n : ℕ) (r : Option ℕ) where
  abbrev mutual
    pub statement_go : Statement → List X → FlowOf X Y
    statement_go Skip J = stands [] J []
    statement_go (Set x e) J = stands [] (set_go k.entries x (value_of e) J) (faults_go k.entries (value_of e) J)
    statement_go (Observe e) J =
        stands [] (only_go k.entries (holds (value_of e)) J)
        (faults_go k.entries (value_of e) J ++ end_go k.entries failed (only_go k.entries (fails (value_of e)) J))
    statement_go (Uniform x e) J = uniform_go k r x (value_of e) J
    statement_go (If e a c) J =
        beside (stands [] [] (faults_go k.entries (value_of e) J))
        (beside (block_go a (only_go k.entries (holds (value_of e)) J)) (block_go c (only_go k.entries (fails (value_of e)) J)))
    statement_go (Choice p a c) J =
        beside (draw_go k r p.den (choice_ends p) [] J) (beside (block_go a (k.class p.den r p.num J)) (block_go c (k.class p.den r (p.den - p.num) J)))
    statement_go (Choose arms) J =
        let b = sum (parts_of arms) in
        beside (draw_go k r b (partial_sums (parts_of arms)) [] J) (arms_go b arms J)
    statement_go (While e a) J = loop_go k.entries k.at_loop (value_of e) (block_go a) n J

    pub block_go : Statements → List X → FlowOf X Y
    block_go done J = stands (k.tidy J ∷ []) (k.tidy J) []
    block_go (st ▸ b) J =
        let f = statement_go st (k.tidy J) in
        beside (stands (k.tidy J ∷ []) [] []) (behind f (block_go b f.next))

    -- the arms of a draw with b parts, one after the other
    pub arms_go : ℕ → ArmList → List X → FlowOf X Y
    arms_go b no_arm J = no_flow
    arms_go b (arm p a arms) J = beside (block_go a (k.class b r p J)) (arms_go b arms J)

-- ---- fractions, as they are

abbrev pub weighted : Entries (Fraction × State) (Fraction × End)
weighted = record { state = λ e. e.1; moved_to = λ s e. (e.0, s); as_end = λ x e. (e.0, x) }

abbrev pub fractions_kind : Kind (Fraction × State) (Fraction × End)
fractions_kind = record {
  entries = weighted;
  tidy = λ I. I;
  at_loop = λ I. I ∷ [];
  class = λ b r c I. scaled (class_weight b r c) I;
  rest = λ b r I. scaled (no_class_weight b r) I;
  shown = λ b r I. draws_each (draw_weights b r) I;
  reached = λ ends I. map (λ e. (e.0, ends)) I;
}

abbrev pub only : (State → Bool) → Table → Table
only = only_go weighted

-- the faults of a guard
abbrev pub faults : (State → Value) → Table → Weighted End
faults = faults_go weighted

-- all entries end in this way
abbrev pub all_end : End → Table → Weighted End
all_end = end_go weighted

abbrev pub statement_flow : ℕ → Option ℕ → Statement → Table → Flow
statement_flow = statement_go fractions_kind

abbrev pub block_flow : ℕ → Option ℕ → Statements → Table → Flow
block_flow = block_go fractions_kind

-- ---- the peak

-- how many different states stand in a table
abbrev pub states : Table → ℕ
states I = distinct_count (pointwise int_eq) (map (λ e. e.1) I)

abbrev pub most_states : List Table → ℕ
most_states [] = 0
most_states (I ∷ Is) = max (states I) (most_states Is)

-- the body of a program, begun with the state of zeros at weight 1
abbrev pub tables_of : SourceProgram → ℕ → Option ℕ → Flow
tables_of p n r = block_flow n r p.body (sure (zeros (length p.names)))

abbrev pub peak_of : SourceProgram → ℕ → Option ℕ → ℕ
peak_of p n r = most_states (tables_of p n r).tables
