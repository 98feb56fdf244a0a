use Rattle.passes.proofs.Spread.{add_up}
use Rattle.passes.proofs.lists_add_up.Goals as goal

pub returns : goal.returns
returns c = add_up
