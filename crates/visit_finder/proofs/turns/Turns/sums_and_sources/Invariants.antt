use Rattle.std.proofs.Common.{take}
use Rattle.visit_finder.specs.Sources.{HaveTurns}
use Rattle.visit_finder.proofs.turns.Turns.sums_and_sources.Given as goal

abbrev pub invariant-loop-from : goal.invariant-loop-from
invariant-loop-from l = HaveTurns l.sources.entries (take l.from-index l.from-items)
