use Rattle.std.proofs.Common.{drop}
use Rattle.visit_finder.proofs.Rows.{Without}
use Rattle.visit_finder.proofs.columns.without.Given as goal

abbrev pub invariant-loop-entry : goal.invariant-loop-entry
invariant-loop-entry l = Without l.moduli l.state l.column.from.items l.part l.others.items (drop l.entry-index l.entry-items)
