use Rattle.string_bounds.proofs.ComingTogether.{come_together}
use Rattle.string_bounds.proofs.runs_come_together.Goals as goal

pub returns : goal.returns
returns c = come_together
