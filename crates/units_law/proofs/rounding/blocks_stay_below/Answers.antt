use Rattle.units_law.proofs.UnitsBelow.{block_below}
use Rattle.units_law.proofs.rounding.blocks_stay_below.Goals as goal

pub returns : goal.returns
returns c cut h N L n some r b w J I s k = block_below cut h N L n some r b w J I s k
