use Rattle.std.proofs.Common.{◌≡◌}
use Rattle.bits_fold.proofs.finding.in_parts.Given as goal

abbrev pub invariant-loop-s : goal.invariant-loop-s
invariant-loop-s l = l.parts.vars ≡ l.fn.table.vars
