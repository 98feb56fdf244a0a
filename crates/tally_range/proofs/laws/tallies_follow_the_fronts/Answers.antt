use Rattle.tally_range.proofs.Fronts.{tallies_fronts}
use Rattle.tally_range.proofs.laws.tallies_follow_the_fronts.Goals as goal

pub returns : goal.returns
returns c = λ p l run ok same. tallies_fronts p l run (c.runs_follow_the_fronts_of_streams.ensures.follow p l run ok same)
