use Rattle.std.proofs.Common.{drop, map}
use Rattle.visit_finder.proofs.Walks.{Entering}
use Rattle.visit_finder.proofs.turns.Turns.entered_at.Given as goal

abbrev pub invariant-loop-number : goal.invariant-loop-number
invariant-loop-number l = Entering l.initial.moduli l.moduli (map (λ e. e.0) l.leaving.entries) l.number-items (drop l.number-index l.number-items) l.begun.entries
