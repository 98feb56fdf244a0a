use Rattle.forgetting.proofs.Marking.{unmarked}
use Rattle.forgetting.proofs.name_set.NameSet.none.Goals as goal

pub returns : goal.returns
returns c = unmarked 256
