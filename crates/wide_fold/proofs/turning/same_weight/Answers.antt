use Rattle.wide_fold.proofs.Weights.{same_pair}
use Rattle.wide_fold.proofs.turning.same_weight.Goals as goal

pub returns : goal.returns
returns c = λ e. same_pair c.args.weight.now c.args.other.now _ _ _ _ c.num.ensures.value c.num-2.ensures.value c.den.ensures.value c.den-2.ensures.value (c.same_number.ensures c.if-not-same_number.false) (c.same_number-2.ensures e)
