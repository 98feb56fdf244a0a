use Rattle.std.proofs.Common.{◌≡◌, ◌+◌, ◌*◌, ◌/◌, ◌^◌, get_or}
use Rattle.weighted_roll.specs.ExactRollers.{sum_below}
use Rattle.weighted_roll.proofs.sharing.strings_left.Given as goal

abbrev pub invariant-loop-weight : goal.invariant-loop-weight
invariant-loop-weight l = l.left + sum_below (λ i. 2 ^ l.flips * get_or l.weights i 0 / l.whole) l.weight-index ≡ 2 ^ l.flips
