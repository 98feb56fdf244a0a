use Rattle.std.proofs.Common.{◌≡◌, None, arith}
use Rattle.mass_fold.proofs.Fits.{if_some_as_is, if_none_as_is}
use Rattle.mass_fold.proofs.Meters.{price_is, price_wide, parts_wide}
use Rattle.mass_fold.proofs.meter.price.Goals as goal

pub returns-in_err-part-clause-cause : goal.returns-in_err-part-clause-cause
returns-in_err-part-clause-cause c =
    let out : c.from_residual.result ≡ None = grind arith in
    rw out (parts_wide c.args.undecided c.args.bound c.args.attempts.most c.in_err-part.ensures.cause)

pub returns-clause-value : goal.returns-clause-value
returns-clause-value c =
    if_some_as_is _ _ _ c.mul.ensures (price_is c.args.undecided c.args.bound c.args.attempts.most _ _ c.of.result c.in_ok-part.ensures.value c.of.ensures.lowest c.of.ensures.equal)

pub returns-clause-cause : goal.returns-clause-cause
returns-clause-cause c =
    if_none_as_is _ _ _ c.mul.ensures (price_wide c.args.undecided c.args.bound c.args.attempts.most _ _ c.of.result c.in_ok-part.ensures.value c.of.ensures.lowest c.of.ensures.equal)
