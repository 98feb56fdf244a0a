use Rattle.std.proofs.Common.{◌≡◌, ◌++◌, drop}
use Rattle.posterior_bounds.specs.inner.Rising.{raised}
use Rattle.posterior_bounds.proofs.rising.raised.Given as goal

abbrev pub invariant-loop-i : goal.invariant-loop-i
invariant-loop-i l = l.rows.items ++ raised l.other (drop l.i l.masses) ≡ raised l.other l.masses
