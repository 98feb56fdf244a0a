-- What a block makes of a table of units: what it makes of a table of fractions, with each product rounded, and the table merged before
-- each statement and at the end. This project's own rule.
use Rattle.std.specs.Prelude.{ℕ, ◌+◌, Option}
use Rattle.gcl_core.specs.meaning.Syntax.{Statement, Statements}
use Rattle.gcl_core.specs.meaning.Value.{State}
use Rattle.gcl_core.specs.meaning.Blocks.{End}
use Rattle.table_flow.specs.Tables.{FlowOf, statement_go, block_go}
use Rattle.units_law.specs.Units.{Units, total}
use Rattle.units_law.specs.Rounding.{Rounding, units_kind}

abbrev pub UnitFlow : Type 0
UnitFlow = FlowOf (State × ℕ) (End × ℕ)

abbrev pub statement_units : Rounding → ℕ → Option ℕ → Statement → Units State → UnitFlow
statement_units cut = statement_go (units_kind cut)

abbrev pub block_units : Rounding → ℕ → Option ℕ → Statements → Units State → UnitFlow
block_units cut = block_go (units_kind cut)

-- what stands after a block and what ended in it
abbrev pub all_units : UnitFlow → ℕ
all_units f = total f.next + total f.ended
