use Rattle.weighing_law.proofs.InOrder.{reads_in_order}
use Rattle.weighing_law.proofs.runs_read_in_order.Goals as goal

pub returns : goal.returns
returns c = reads_in_order
