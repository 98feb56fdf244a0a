use Rattle.std.proofs.Common.{◌≡◌}
use Rattle.visit_finder.proofs.solving.Left.stand_all.Given as goal

abbrev pub invariant-loop-entry : goal.invariant-loop-entry
invariant-loop-entry l = l.self.columns.entries ≡ l.initial.self.columns.entries
