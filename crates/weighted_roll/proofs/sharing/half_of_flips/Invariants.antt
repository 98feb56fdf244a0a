use Rattle.std.proofs.Common.{◌≡◌, ◌*◌}
use Rattle.weighted_roll.specs.Shares.{all_flips}
use Rattle.weighted_roll.proofs.sharing.half_of_flips.Given as goal

abbrev pub invariant-loop-t : goal.invariant-loop-t
invariant-loop-t l = 2 * l.half ≡ all_flips l.weights l.t
