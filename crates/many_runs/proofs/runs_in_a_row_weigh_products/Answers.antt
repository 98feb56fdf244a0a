use Rattle.many_runs.proofs.Rows.{rows_weigh}
use Rattle.many_runs.proofs.runs_in_a_row_weigh_products.Goals as goal

pub returns : goal.returns
returns c = rows_weigh
