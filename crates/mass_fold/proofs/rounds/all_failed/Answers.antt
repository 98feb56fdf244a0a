use Rattle.std.proofs.Common.{◌<◌, arith}
use Rattle.mass_fold.proofs.Failing.{power_of_none, power_of_all}
use Rattle.mass_fold.proofs.rounds.all_failed.Goals.{then-num-eq0-via-then-num-eq0, then-num-eq0-via-else-num-eq0+then-num-den}
use Rattle.mass_fold.proofs.rounds.all_failed.Goals as goal

pub returns-then-num-eq0-clause-value : goal.returns-then-num-eq0-clause-value
returns-then-num-eq0-clause-value c =
    let f = c.args.f.now in
    let pos : 0 < f.1 = omega (arith, c.num.ensures.lowest.positive) in
    elim c.then-num-eq0.branch [
      | then-num-eq0-via-then-num-eq0 w ↦ power_of_none f c.args.rounds c.requires.some pos (omega (arith, c.num.ensures.value, w.if-num-eq0))
      | then-num-eq0-via-else-num-eq0+then-num-den w ↦ power_of_all f c.args.rounds pos (omega (arith, w.num-else-num-eq0.ensures.value, w.den.ensures.value, w.if-num-den))
    ]
