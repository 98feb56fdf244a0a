use Rattle.forgetting.proofs.Kept.{stays_checked}
use Rattle.forgetting.proofs.laws.forgetting_keeps_programs_checked.Goals as goal

pub returns : goal.returns
returns c = stays_checked
