use Rattle.scaled_law.proofs.Ups.{rounds_up}
use Rattle.scaled_law.proofs.laws.products_are_rounded_up.Goals as goal

pub returns : goal.returns
returns c = rounds_up
