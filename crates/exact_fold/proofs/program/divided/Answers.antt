use Rattle.std.proofs.Common.{arith, sym, subst}
use Rattle.mass_fold.specs.inner.Rounds.{OverRest}
use Rattle.exact_fold.specs.inner.Rounds.{SumsTo}
use Rattle.exact_fold.proofs.Rows.{left_as}
use Rattle.exact_fold.proofs.program.divided.Goals as goal

pub returns : goal.returns
returns c =
    let same = sym c.in_ok-of.ensures.same in
    let sum = c.in-Some.sum in
    record {
      parts = c.are_parts.ensures c.if-not-are_parts.false;
      over = subst (OverRest c.args.round.failed c.args.round.rows.entries) same c.in_ok-masses.ensures.ok;
      ascending = c.in_ok-of.ensures.ascending;
      each = c.in_ok-of.ensures.lowest;
      sum = sum;
      sums = subst (λ z. SumsTo z sum) same c.in-Some.ensures;
      small = omega (arith, c.if-num-den.false, c.num.ensures.value, c.den.ensures.value);
      some = c.den.ensures.lowest.positive;
      left = left_as c.of-endless.result _ _ _ sum.1 sum.0 c.den-2.ensures.value c.num-2.ensures.value c.den-3.ensures.value c.of-endless.ensures.equal;
      low = c.of-endless.ensures.lowest;
    }
