use Rattle.std.proofs.Common.{length}
use Rattle.weighted_roll.proofs.Summing.{Summed}
use Rattle.weighted_roll.proofs.reading.sums_in.Given as goal

abbrev pub invariant-parts : goal.invariant-parts
invariant-parts l = Summed l.word l.rest l.sums.count l.sums.sum l.sums.greatest

abbrev pub decreases-parts : goal.decreases-parts
decreases-parts l = length l.rest
