use Rattle.table_flow.proofs.AtWidth.{at_width}
use Rattle.table_flow.proofs.fractions_are_whole_at_the_width.Goals as goal

pub returns : goal.returns
returns c = at_width
