use Rattle.std.proofs.Common.{◌≡◌}
use Rattle.weighted_roll.specs.Shares.{share_of, values_below}
use Rattle.weighted_roll.proofs.sharing.label_shares.Given as goal

abbrev pub invariant-loop-weight : goal.invariant-loop-weight
invariant-loop-weight l = l.shares.items ≡ values_below (share_of l.weights l.flips) l.weight-index
