use Rattle.std.proofs.Common.{◌≡◌, ◌-◌, ◌∙◌, ap, sym, subst, arith}
use Rattle.numbers.specs.Arithmetic.{InLowest}
use Rattle.numbers.specs.Fraction.{IsEqual, lowest}
use Rattle.numbers.proofs.Divisors.{lowest_in_lowest, lowest_equal}
use Rattle.mass_fold.specs.inner.Rounds.{OverRest}
use Rattle.exact_fold.specs.inner.Rounds.{SumsTo}
use Rattle.wide_masses.proofs.program.divided.Goals as goal

pub returns : goal.returns
returns c =
    let same = sym c.in_ok-of.ensures.same in
    let sum = c.in_ok-sum.sum in
    let left : c.in_ok-left.left ≡ sum.1 - sum.0
    = c.in_ok-left.ensures.0 ∙ ap (λ d. d - c.num-2.result.now) c.den-2.ensures.value ∙ ap (λ n. sum.1 - n) c.num-2.ensures.value in
    let is : c.in_ok-endless.endless ≡ lowest (sum.1 - sum.0, sum.1)
    = c.in_ok-endless.ensures.0 ∙ ap (λ l. lowest (l, c.den-3.result.now)) left ∙ ap (λ d. lowest (sum.1 - sum.0, d)) c.den-3.ensures.value in
    record {
      parts = c.in_ok-are_parts.ensures c.if-not-branch.false;
      over = subst (OverRest c.args.round.failed c.args.round.rows.entries) same c.in_ok-masses.ensures;
      ascending = c.in_ok-of.ensures.ascending;
      each = c.in_ok-of.ensures.lowest;
      sum = sum;
      sums = subst (λ z. SumsTo z sum) same c.in_ok-sum.ensures;
      small = omega (arith, c.is_at_most.ensures.0 c.if-not-is_at_most.false, c.num.ensures.value, c.den.ensures.value);
      some = c.den.ensures.lowest.positive;
      left = subst (λ z. IsEqual z (sum.1 - sum.0, sum.1)) (sym is) (lowest_equal (sum.1 - sum.0) sum.1);
      low = subst InLowest (sym is) (lowest_in_lowest (sum.1 - sum.0) sum.1 c.den.ensures.lowest.positive);
    }
