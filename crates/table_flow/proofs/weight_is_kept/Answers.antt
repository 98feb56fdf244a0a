use Rattle.table_flow.proofs.Kept.{kept_all}
use Rattle.table_flow.proofs.weight_is_kept.Goals as goal

pub returns : goal.returns
returns c = kept_all
