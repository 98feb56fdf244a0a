use Rattle.std.proofs.Common.{◌≡◌, ℕ, ◌+◌}
use Rattle.gcl_core.specs.meaning.Value.{State}
use Rattle.units_law.specs.Units.{held}
use Rattle.units_law.proofs.UnitWords.{below_units}
use Rattle.enclose_fold.proofs.draws.spread.Given as goal

abbrev pub invariant-loop-i : goal.invariant-loop-i
invariant-loop-i l = record {
  vars : l.next.vars ≡ l.fn.next.vars;
  so_far : (G : State → ℕ) → held G l.next.states.entries ≡ held G l.fn.next.states.entries + held G (below_units l.x l.i l.s l.h);
}
