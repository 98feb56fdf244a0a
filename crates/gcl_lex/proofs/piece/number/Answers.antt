use Rattle.std.proofs.Common.{◌≡◌, ◌≤◌, ◌+◌, ◌-◌, ◌*◌, ◌^◌, None, get_or, arith}
use Rattle.gcl_lex.proofs.Numbers.{grows_wide}
use Rattle.gcl_lex.proofs.piece.number.Goals as goal

pub returns-in_err-checked_mul : goal.returns-in_err-checked_mul
returns-in_err-checked_mul c =
    let r : c.from_residual.result ≡ None = grind arith in
    let w : 2 ^ 64 ≤ c.loop-digit.value * 10 + (get_or c.args.digits.now c.loop-digit.digit-index 0 - 48) = omega (arith, c.in_err-checked_mul.ensures) in
    rw (r, grows_wide c.args.digits.now c.loop-digit.value c.loop-digit.digit-index (omega arith) c.loop-digit.invariant.value c.loop-digit.invariant.digits w)

pub returns-in_err-value : goal.returns-in_err-value
returns-in_err-value c =
    let r : c.from_residual-in_err-value.result ≡ None = grind arith in
    let w : 2 ^ 64 ≤ c.loop-digit.value * 10 + (get_or c.args.digits.now c.loop-digit.digit-index 0 - 48) = omega (arith, c.in_err-value.ensures, c.in_ok-checked_mul.ensures) in
    rw (r, grows_wide c.args.digits.now c.loop-digit.value c.loop-digit.digit-index (omega arith) c.loop-digit.invariant.value c.loop-digit.invariant.digits w)
