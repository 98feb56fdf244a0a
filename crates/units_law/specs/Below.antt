-- Tables of units below tables of fractions. This project's own rule.
use Rattle.std.specs.Prelude.{ℕ, ◌*◌, ◌≤◌, length, All}
use Rattle.numbers.specs.declared.units.TheConstants.{ALL}
use Rattle.gcl_core.specs.weighing.WeightedEnds.{Weighted}
use Rattle.table_flow.specs.Scale.{amount}
use Rattle.table_flow.specs.Tables.{Flow}
use Rattle.units_law.specs.Units.{Units, held}
use Rattle.units_law.specs.Flows.{UnitFlow}

-- J is below I, whose weights are whole at scale N: for every weighting of members
abbrev pub IsBelow : {A : Type 0} → ℕ → Units A → Weighted A → Type 0
IsBelow {A} N J I = (G : A → ℕ) → N * held G J ≤ ALL * amount N G I

-- the table after a block, and what ended in it; and no table on the way has more than L states
pub record FlowIsBelow (N L : ℕ) (f : UnitFlow) (g : Flow) : Type 0 where
  pub next : IsBelow N f.next g.next
  pub ended : IsBelow N f.ended g.ended
  pub few : All (λ J. length J ≤ L) f.tables
