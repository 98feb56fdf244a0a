use Rattle.std.proofs.Common.{arith}
use Rattle.exact_fold.proofs.Sums.{parts_of_one}
use Rattle.exact_fold.proofs.program.are_parts.Goals as goal

pub returns : goal.returns
returns c = λ e.
    let all = c.in-Some-add.all in
    parts_of_one c.args.rows.now.entries c.in-Some.sum c.args.failed.now all c.in-Some.ensures c.in-Some-add.ensures (omega (arith, c.if-num-den.false, c.num.ensures.value, c.den.ensures.value))
