use Rattle.wide_fold.proofs.Weights.{no_weight}
use Rattle.wide_fold.proofs.ended.nothing.Goals as goal

pub returns : goal.returns
returns c = no_weight _ _ _ c.in_ok-of.ensures.0 c.in_ok-num.ensures.0 c.in_ok-den.ensures.0
