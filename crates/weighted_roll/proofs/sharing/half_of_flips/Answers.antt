use Rattle.std.proofs.Common.{◌≡◌, ◌+◌, ◌*◌, ◌≤◌, ◌^◌, None, arith}
use Rattle.weighted_roll.specs.Rollers.{undecided}
use Rattle.weighted_roll.specs.WeightedRoll.{weighted}
use Rattle.weighted_roll.proofs.Weighing.{flips_too_many, half_more}
use Rattle.weighted_roll.proofs.sharing.half_of_flips.Goals as goal

pub returns-in_err-checked_mul : goal.returns-in_err-checked_mul
returns-in_err-checked_mul c =
    let r : c.from_residual.result ≡ None = grind arith in
    let w : 2 ^ 128 ≤ c.loop-t.half * 2 + undecided (weighted c.args.weights.now) c.loop-t.t = omega (arith, c.in_err-checked_mul.ensures) in
    rw r (flips_too_many c.args.weights.now c.loop-t.t c.loop-t.half c.loop-t.invariant c.args.flips c.loop-t-test.true w)

pub returns-in_err-half : goal.returns-in_err-half
returns-in_err-half c =
    let r : c.from_residual-in_err-half.result ≡ None = grind arith in
    let w : 2 ^ 128 ≤ c.loop-t.half * 2 + undecided (weighted c.args.weights.now) c.loop-t.t =
    omega (arith, c.in_err-half.ensures, c.in_ok-checked_mul.ensures, c.strings_left.ensures) in
    rw r (flips_too_many c.args.weights.now c.loop-t.t c.loop-t.half c.loop-t.invariant c.args.flips c.loop-t-test.true w)

pub loop-t-preserved : goal.loop-t-preserved
loop-t-preserved c =
    let e : c.in_ok-half.half ≡ c.loop-t.half * 2 + undecided (weighted c.args.weights.now) c.loop-t.t =
    omega (arith, c.in_ok-half.ensures, c.in_ok-checked_mul.ensures, c.strings_left.ensures) in
    half_more c.args.weights.now c.loop-t.t c.loop-t.half c.loop-t.invariant c.in_ok-half.half e
