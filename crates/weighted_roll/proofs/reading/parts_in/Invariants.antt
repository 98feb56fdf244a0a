use Rattle.std.proofs.Common.{length}
use Rattle.weighted_roll.proofs.Listing.{Read}
use Rattle.weighted_roll.proofs.reading.parts_in.Given as goal

abbrev pub invariant-parts : goal.invariant-parts
invariant-parts l = Read l.word l.weights.items l.rest

abbrev pub decreases-parts : goal.decreases-parts
decreases-parts l = length l.rest
