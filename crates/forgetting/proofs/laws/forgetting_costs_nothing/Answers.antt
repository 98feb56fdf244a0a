use Rattle.forgetting.proofs.Costs.{same_expected}
use Rattle.forgetting.proofs.laws.forgetting_costs_nothing.Goals as goal

pub returns : goal.returns
returns c = same_expected
