use Rattle.std.proofs.Common.{◌≡◌, ◌-◌, ap, length, arith}
use Rattle.weighted_roll.proofs.Weighing.{quota_fits, quota_taken, all_taken}
use Rattle.weighted_roll.proofs.sharing.strings_left.Goals as goal

pub overflow_sub-left : goal.overflow_sub-left
overflow_sub-left c =
    let fits = quota_fits c.args.weights.now c.args.whole c.args.flips c.requires.weights c.requires.whole c.loop-weight.weight-index c.loop-weight.left c.loop-weight.invariant
    c.loop-weight-test.true in
    omega (arith, c.strings_given-left.ensures)

pub loop-weight-preserved : goal.loop-weight-preserved
loop-weight-preserved c =
    quota_taken c.args.weights.now c.args.whole c.args.flips c.requires.weights c.requires.whole c.loop-weight.weight-index c.loop-weight.left c.loop-weight.invariant
    _ c.loop-weight-test.true (let e : c.loop-weight.left - c.strings_given-left.result ≡ c.loop-weight.left - _ = ap (λ n. c.loop-weight.left - n) c.strings_given-left.ensures in e)

pub returns : goal.returns
returns c =
    all_taken c.args.weights.now c.args.whole c.args.flips c.requires.weights c.requires.whole c.loop-weight.weight-index c.loop-weight.left c.loop-weight.invariant
    (let e : c.loop-weight.weight-index ≡ length c.args.weights.now = omega arith in e)
