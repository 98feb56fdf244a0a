use Rattle.std.proofs.Common.{ap, arith}
use Rattle.std.proofs.lemmas.Result.{IfOk-weaker}
use Rattle.scaled_law.specs.Pairs.{Pair}
use Rattle.scaled_fold.proofs.Grown.{left_is}
use Rattle.scaled_fold.proofs.growing.left_of.Goals as goal

pub returns : goal.returns
returns c =
    let a = ap (λ (u : Pair). u.1) c.in_ok-next.ensures in
    IfOk-weaker c.sum-3.result _ _ (λ n e. left_is c.args.walk.now n (omega (arith, e, a, c.in_ok-aside.ensures, c.in_ok-most.ensures, c.in_ok-ended.ensures, c.in_ok-sum.ensures))) c.sum-3.ensures
