use Rattle.std.proofs.Common.{arith}
use Rattle.exact_fold.proofs.Sums.{parts_of_one}
use Rattle.wide_masses.proofs.Quotients.{adds}
use Rattle.wide_masses.proofs.rest.are_parts.Goals as goal

pub returns : goal.returns
returns c = λ e.
    parts_of_one c.args.rows.now.entries c.in_ok-sum.sum c.args.failed.now c.in_ok-all.all c.in_ok-sum.ensures (adds _ _ _ c.in_ok-all.ensures.0) (omega (arith, c.is_at_most.ensures.0 e, c.num.ensures.value, c.den.ensures.value))
