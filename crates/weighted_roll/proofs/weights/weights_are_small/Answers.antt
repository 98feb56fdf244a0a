use Rattle.weighted_roll.proofs.Allowed.{are_few, are_below, are_some, are_small}
use Rattle.weighted_roll.proofs.weights.weights_are_small.Goals as goal

pub returns-clause-few : goal.returns-clause-few
returns-clause-few c = are_few c.args.weights.now c.requires

pub returns-clause-below : goal.returns-clause-below
returns-clause-below c = are_below c.args.weights.now c.requires

pub returns-clause-some : goal.returns-clause-some
returns-clause-some c = are_some c.args.weights.now c.requires

pub returns-clause-small : goal.returns-clause-small
returns-clause-small c = are_small c.args.weights.now c.requires
