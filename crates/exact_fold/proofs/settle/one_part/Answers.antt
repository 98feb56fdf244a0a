use Rattle.exact_fold.proofs.Sums.{some_part}
use Rattle.exact_fold.proofs.settle.one_part.Goals as goal

pub returns-clause-above : goal.returns-clause-above
returns-clause-above c = some_part c.of.result c.from.result c.of.ensures.equal c.of.ensures.lowest.positive
