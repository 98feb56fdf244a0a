use Rattle.wide_fold.proofs.Weights.{one_is}
use Rattle.wide_fold.proofs.table.one.Goals as goal

pub returns : goal.returns
returns c = one_is _ _ _ c.in_ok-of.ensures.0 c.in_ok-num.ensures.0 c.in_ok-den.ensures.0
