-- Words for parts of flows of units.
use Rattle.std.specs.Prelude.{ℕ, [], ◌∷◌, Option}
use Rattle.gcl_core.specs.meaning.Syntax.{Statements, ArmList}
use Rattle.gcl_core.specs.meaning.Value.{State, Value}
use Rattle.gcl_core.specs.meaning.Blocks.{End}
use Rattle.table_flow.specs.Tables.{below_go, loop_go, arms_go, uniform_go}
use Rattle.table_flow.proofs.FlowWords.{both}
use Rattle.units_law.specs.Units.{Units, counted_units}
use Rattle.units_law.specs.Rounding.{Rounding, units_kind}
use Rattle.units_law.specs.Flows.{UnitFlow, block_units}
use Rattle.units_law.specs.Roundings.{roundings_of}

abbrev pub both_units : Units End → UnitFlow → UnitFlow → UnitFlow
both_units = both

-- x set to each number below m, each with w units
abbrev pub below_units : (x m : ℕ) → State → ℕ → Units State
below_units x m s w = below_go counted_units x m ((s, w) ∷ [])

abbrev pub loop_units : (State → Value) → (Units State → UnitFlow) → ℕ → Units State → UnitFlow
loop_units = loop_go counted_units (λ J. [])

module _ (cut : Rounding) where
  -- x set to each number below the value of an expression, and the states that end
  abbrev pub drawn_units : ℕ → (State → Value) → Option ℕ → Units State → Units State
  drawn_units x v r J = (uniform_go (units_kind cut) r x v J).next

  abbrev pub undrawn_units : ℕ → (State → Value) → Option ℕ → Units State → Units End
  undrawn_units x v r J = (uniform_go (units_kind cut) r x v J).ended

  abbrev pub arms_units : ℕ → Option ℕ → ℕ → ArmList → Units State → UnitFlow
  arms_units = arms_go (units_kind cut)

  abbrev pub block_roundings : ℕ → Option ℕ → Statements → Units State → ℕ
  block_roundings n r b J = roundings_of (block_units cut n r b J).reached
