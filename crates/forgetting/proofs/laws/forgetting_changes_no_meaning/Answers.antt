use Rattle.forgetting.proofs.Results.{same_meaning}
use Rattle.forgetting.proofs.laws.forgetting_changes_no_meaning.Goals as goal

pub returns : goal.returns
returns c = same_meaning
