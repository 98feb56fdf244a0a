use Rattle.wide_fold.proofs.Weights.{equal_is}
use Rattle.wide_fold.proofs.turning.same_number.Goals as goal

pub returns-in-Equal : goal.returns-in-Equal
returns-in-Equal c = λ e. equal_is _ _ _ c.compare.ensures c.in-Equal.is
