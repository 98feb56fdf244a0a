-- Words for parts of flows.
use Rattle.std.specs.Prelude.{ℕ, [], ◌∷◌, List, Option, map}
use Rattle.gcl_core.specs.meaning.Syntax.{Statement, Statements, ArmList, SourceProgram}
use Rattle.gcl_core.specs.meaning.Value.{State, Value}
use Rattle.gcl_core.specs.meaning.Blocks.{End}
use Rattle.gcl_core.specs.weighing.Fractions.{Fraction, times}
use Rattle.gcl_core.specs.weighing.WeightedEnds.{Weighted}
use Rattle.table_flow.specs.Tables.{FlowOf, Flow, Table, ReachedDraws, stands, beside, weighted, fractions_kind, set_go, below_go, loop_go, arms_go, statement_flow, block_flow, tables_of}
use Rattle.table_flow.proofs.UniformLists.{drawn_go, undrawn_go, shown_go, reached_go}

-- two flows, and besides, some states ended
abbrev pub both : {X Y : Type 0} → List Y → FlowOf X Y → FlowOf X Y → FlowOf X Y
both ended f g = beside (stands [] [] ended) (beside f g)

-- ---- of tables of fractions

-- each weight multiplied, by what is given for its state
abbrev pub multiplied : (State → Fraction) → Table → Table
multiplied p I = map (λ e. (times e.0 (p e.1), e.1)) I

-- x set to the value of an expression
abbrev pub set_to : ℕ → (State → Value) → Table → Table
set_to = set_go weighted

-- x set to each number below m, and below the value of an expression
abbrev pub set_below : ℕ → ℕ → Table → Table
set_below = below_go weighted

abbrev pub set_drawn : ℕ → (State → Value) → Option ℕ → Table → Table
set_drawn = drawn_go fractions_kind

abbrev pub not_drawn : (State → Value) → Option ℕ → Table → Weighted End
not_drawn = undrawn_go fractions_kind

abbrev pub bound_draws : (State → Value) → Option ℕ → Table → List Fraction
bound_draws = shown_go fractions_kind

abbrev pub loop_flow : (State → Value) → (Table → Flow) → ℕ → Table → Flow
loop_flow = loop_go weighted (λ I. I ∷ [])

abbrev pub arms_flow : ℕ → Option ℕ → ℕ → ArmList → Table → Flow
arms_flow = arms_go fractions_kind

-- ---- draws that are reached

-- one draw for each entry, and one for each whose value bounds it
abbrev pub drawn_each : List ℕ → Table → ReachedDraws
drawn_each = fractions_kind.reached

abbrev pub drawn_bound : (State → Value) → Table → ReachedDraws
drawn_bound = reached_go fractions_kind

abbrev pub loop_draws : (State → Value) → (Table → Flow) → ℕ → Table → ReachedDraws
loop_draws guard body t I = (loop_flow guard body t I).reached

module _ (n : ℕ) (r : Option ℕ) where
  abbrev pub statement_draws : Statement → Table → ReachedDraws
  statement_draws st I = (statement_flow n r st I).reached

  abbrev pub block_draws : Statements → Table → ReachedDraws
  block_draws b I = (block_flow n r b I).reached

  abbrev pub arms_draws : ℕ → ArmList → Table → ReachedDraws
  arms_draws b arms I = (arms_flow n r b arms I).reached

abbrev pub draws_of : SourceProgram → ℕ → Option ℕ → ReachedDraws
draws_of p n r = (tables_of p n r).reached
