-- What the clauses of a fold say of a block, a statement, a loop and the arms of a choice among several: the table and the ends
-- after it, and why it is refused.
use Rattle.std.specs.Prelude.{◌≡◌, ℕ, ◌+◌, ◌≤◌, [], ◌++◌, length, All, Option}
use Rattle.std.specs.List.{sum}
use Rattle.numbers.specs.declared.units.TheConstants.{ALL}
use Rattle.gcl_core.specs.meaning.Arms.{parts_of}
use Rattle.gcl_core.specs.meaning.Syntax.{Expression, Statement, Statements, ArmList, no_arm, arm}
use Rattle.gcl_core.specs.meaning.Value.{State, value_of}
use Rattle.table_flow.specs.Tables.{loop_go, arms_go}
use Rattle.units_law.specs.Down.{down}
use Rattle.units_law.specs.Flows.{UnitFlow, statement_units, block_units}
use Rattle.units_law.specs.Merged.{merged}
use Rattle.units_law.specs.Rounding.{class_units, units_kind}
use Rattle.units_law.specs.Units.{Units, counted_units, total}
use Rattle.enclose_fold.specs.declared.error.EncloseError.{EncloseError}
use Rattle.enclose_fold.specs.declared.ended.Ended.{Ended}
use Rattle.enclose_fold.specs.declared.fold.Fold.{Fold}
use Rattle.enclose_fold.specs.declared.table.Table.{Table}
use Rattle.enclose_fold.specs.inner.Ended.{units_of, EndsWith}
use Rattle.enclose_fold.specs.inner.Refusals.{Refuses}

-- the table that a flow leads to, and what ended besides
pub record Gives (f : UnitFlow) (E : Ended) (fs : Units State) (F : Ended) : Type 0 where
  pub next : fs ≡ merged f.next
  pub ended : EndsWith E f.ended F

-- refused where no table on the way has more states
abbrev pub FlowRefused : UnitFlow → EncloseError → Type 0
FlowRefused f e = (L : ℕ) → All (λ J. length J ≤ L) f.tables → Refuses e L

-- nor the one after it
abbrev pub StepRefused : UnitFlow → EncloseError → Type 0
StepRefused f e = (L : ℕ) → All (λ J. length J ≤ L) f.tables → length (merged f.next) ≤ L → Refuses e L

-- ---- a block

abbrev pub BlockGives : Fold → Statements → Table → Ended → Table → Ended → Type 0
BlockGives f b t E t' E' = Gives (block_units down f.turns f.attempts b t.states.entries) E t'.states.entries E'

abbrev pub BlockRefused : Fold → Statements → Table → EncloseError → Type 0
BlockRefused f b t = FlowRefused (block_units down f.turns f.attempts b t.states.entries)

-- ---- a statement

abbrev pub StatementGives : Fold → Statement → Table → Ended → Table → Ended → Type 0
StatementGives f s t E t' E' = Gives (statement_units down f.turns f.attempts s t.states.entries) E t'.states.entries E'

abbrev pub StatementRefused : Fold → Statement → Table → EncloseError → Type 0
StatementRefused f s t = StepRefused (statement_units down f.turns f.attempts s t.states.entries)

-- ---- a loop

abbrev pub turns_units : Fold → Expression → Statements → Units State → UnitFlow
turns_units f e b = loop_go counted_units (λ J. []) (value_of e) (block_units down f.turns f.attempts b) f.turns

abbrev pub LoopGives : Fold → Expression → Statements → Table → Ended → Table → Ended → Type 0
LoopGives f e b t E t' E' = Gives (turns_units f e b t.states.entries) E t'.states.entries E'

abbrev pub LoopRefused : Fold → Expression → Statements → Table → EncloseError → Type 0
LoopRefused f e b t = StepRefused (turns_units f e b t.states.entries)

-- ---- the arms of a choice among several

abbrev pub each_arm : Fold → ArmList → Table → UnitFlow
each_arm f arms t = arms_go (units_kind down) f.turns f.attempts (sum (parts_of arms)) arms t.states.entries

abbrev pub ArmsGive : Fold → ArmList → Table → Ended → Table → Ended → Type 0
ArmsGive f arms t E t' E' = Gives (each_arm f arms t) E t'.states.entries E'

abbrev pub ArmsRefused : Fold → ArmList → Table → EncloseError → Type 0
ArmsRefused f arms t = StepRefused (each_arm f arms t)

-- what all of them get
abbrev pub all_sides : ℕ → Option ℕ → ArmList → Units State → Units State
all_sides b r no_arm J = []
all_sides b r (arm p a arms) J = class_units down b r p J ++ all_sides b r arms J

abbrev pub ArmsWithin : Fold → ArmList → Table → Ended → Type 0
ArmsWithin f arms t E = total (all_sides (sum (parts_of arms)) f.attempts arms t.states.entries) + total (units_of E) ≤ ALL
