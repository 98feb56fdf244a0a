use Rattle.std.proofs.Common.{◌≡◌, ◌≤◌, take}
use Rattle.std.specs.List.{sum}
use Rattle.weighted_roll.specs.declared.rules.TheConstants.{GREATEST_SUM}
use Rattle.weighted_roll.proofs.weights.small_sum.Given as goal

abbrev pub invariant-loop-a : goal.invariant-loop-a
invariant-loop-a l = record {
  so_far : l.sum ≡ sum (take l.a-index l.weights);
  small : l.sum ≤ GREATEST_SUM;
}
