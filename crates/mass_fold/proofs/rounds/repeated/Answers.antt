use Rattle.std.proofs.Common.{◌≡◌, None, sym, arith}
use Rattle.mass_fold.proofs.Repeats.{repeated_never, rounds_next, product_blames, sum_blames}
use Rattle.mass_fold.proofs.rounds.repeated.Goals as goal

pub returns-then-num-eq0-clause-value : goal.returns-then-num-eq0-clause-value
returns-then-num-eq0-clause-value c = repeated_never c.args.s.now c.args.f.now c.args.rounds c.requires (omega (arith, c.if-num-eq0.true, c.num.ensures))

pub returns-in_err-mul-clause-cause : goal.returns-in_err-mul-clause-cause
returns-in_err-mul-clause-cause c =
    let out : c.from_residual.result ≡ None = grind arith in
    rw out (product_blames c.args.s.now c.args.f.now c.loop.sum c.loop.counter c.args.rounds c.loop-test.true c.loop.invariant (sym c.in_err-mul.ensures))

pub returns-in_err-sum-clause-cause : goal.returns-in_err-sum-clause-cause
returns-in_err-sum-clause-cause c =
    let out : c.from_residual-in_err-sum.result ≡ None = grind arith in
    rw out (sum_blames c.args.s.now c.args.f.now c.loop.sum c.in_ok-mul.field-0 c.loop.counter c.args.rounds c.loop-test.true c.loop.invariant c.is_lowest.ensures (sym c.in_ok-mul.ensures) (sym c.in_err-sum.ensures))

pub loop-preserved : goal.loop-preserved
loop-preserved c =
    rounds_next c.args.s.now c.args.f.now c.loop.sum c.in_ok-mul.field-0 c.in_ok-sum.sum c.loop.counter c.loop.invariant (sym c.in_ok-mul.ensures) (sym c.in_ok-sum.ensures)
