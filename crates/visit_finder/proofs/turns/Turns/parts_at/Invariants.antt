use Rattle.std.proofs.Common.{drop, map}
use Rattle.visit_finder.proofs.Walks.{Leading}
use Rattle.visit_finder.proofs.turns.Turns.parts_at.Given as goal

abbrev pub invariant-loop-from : goal.invariant-loop-from
invariant-loop-from l = Leading l.initial.moduli l.moduli (map (λ e. e.0) l.leaving.entries) l.from-items (drop l.from-index l.from-items) l.over l.den l.parts.entries
