use Rattle.table_flow.proofs.Linear.{amounts_paths}
use Rattle.table_flow.proofs.tables_hold_the_ends.Goals as goal

pub returns : goal.returns
returns c = amounts_paths
