use Rattle.std.proofs.Common.{◌≡◌}
use Rattle.weighted_roll.specs.inner.Tables.{after_flips}
use Rattle.weighted_roll.proofs.table.Table.unroll.Given as goal

abbrev pub invariant-loop-t : goal.invariant-loop-t
invariant-loop-t l = l.room ≡ after_flips l.self.whole l.t l.self.weights.items
