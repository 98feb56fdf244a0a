use Rattle.std.proofs.Common.{take}
use Rattle.visit_finder.specs.Equations.{AllForms}
use Rattle.visit_finder.proofs.ColumnsOf.{Each, HasEntered, HasLed}
use Rattle.visit_finder.proofs.solving.columns_of.Given as goal

abbrev pub invariant-loop-state : goal.invariant-loop-state
invariant-loop-state l = Each (take l.state-index l.state-items) (HasEntered l.moduli l.entered.entries l.entered.entries) l.columns

abbrev pub invariant-loop-state-2 : goal.invariant-loop-state-2
invariant-loop-state-2 l = AllForms l.moduli l.state-iterator × Each l.states.items (HasEntered l.moduli l.entered.entries l.state-iterator) l.columns

abbrev pub invariant-loop-ends : goal.invariant-loop-ends
invariant-loop-ends l = AllForms l.moduli l.ends-iterator × Each l.states.items (HasLed l.moduli l.entered.entries l.parts.entries l.ends-iterator) l.columns
