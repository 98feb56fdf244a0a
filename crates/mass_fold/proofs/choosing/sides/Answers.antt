use Rattle.std.proofs.Common.{◌≡◌, Err, arith}
use Rattle.mass_fold.proofs.Sides.{none_refused, first_refused, second_refused, sides_to}
use Rattle.mass_fold.proofs.choosing.sides.Goals as goal

pub returns-in_err-part-clause-cause : goal.returns-in_err-part-clause-cause
returns-in_err-part-clause-cause c =
    let out : c.from_residual.result ≡ Err c.in_err-part.field-0.0 = grind arith in
    rw out (none_refused c.args.p c.args.attempts.most c.requires c.args.table.now.states.entries c.args.ended.now _ c.in_err-part.ensures.cause)

pub returns-in_err-first-clause-cause : goal.returns-in_err-first-clause-cause
returns-in_err-first-clause-cause c =
    let out : c.from_residual-in_err-first.result ≡ Err c.in_err-first.field-0.0 = grind arith in
    rw out (first_refused c.args.p c.args.attempts.most c.requires c.args.table.now.states.entries c.args.ended.now _ c.in_ok-part.ensures.equal _ c.in_err-first.ensures.cause)

pub returns-in_err-second-clause-cause : goal.returns-in_err-second-clause-cause
returns-in_err-second-clause-cause c =
    let out : c.from_residual-in_err-second.result ≡ Err c.in_err-second.field-0.0 = grind arith in
    rw out (second_refused c.args.p c.args.attempts.most c.requires c.args.table.now.states.entries c.args.ended.now _ c.in_ok-part.ensures.equal _ c.in_err-second.ensures.cause)

pub returns-clause-ok : goal.returns-clause-ok
returns-clause-ok c =
    sides_to c.args.p c.args.attempts.most c.requires c.args.table.now.states.entries c.args.ended.now _ c.in_ok-part.ensures.equal _ c.in_ok-part.ensures.ok _ _ c.in_ok-first.ensures.ok c.in_ok-second.ensures.ok
