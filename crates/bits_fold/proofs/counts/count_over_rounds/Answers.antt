use Rattle.std.proofs.Common.{◌≡◌, ◌-◌, ◌≤◌, ◌<◌, ◌∙◌, sym, ap, subst, arith}
use Rattle.numbers.specs.Fraction.{IsEqual}
use Rattle.gcl_core.specs.meaning.Views.{source_of}
use Rattle.bits_law.specs.RunPrice.{expected_price}
use Rattle.bits_fold.specs.Counted.{price_of}
use Rattle.bits_fold.proofs.EndedRounds.{rounds_blame}
use Rattle.bits_fold.proofs.Programs.{all_fail, nothing_costs, all_cost, round_some}
use Rattle.bits_fold.proofs.counts.count_over_rounds.Goals as goal

pub returns-then-num-eq0-clause-answer : goal.returns-then-num-eq0-clause-answer
returns-then-num-eq0-clause-answer c = (
  let price = price_of c.args.what in
      let p = source_of c.args.p.now in
      let ok = c.is_kept.ensures.kept in
      let cost = c.args.cost.now in
      let r = c.requires.costs in
      let f = c.requires.fails in
      nothing_costs (expected_price price p) p ok cost (round_some price p cost r) c.args.failed.now c.is_lowest.ensures.positive f (λ h. c.costs_tend_to_their_limit.ensures.passes price p r.0 cost f.settled ok r.1 f.settles h)
      (λ h z. c.costs_tend_to_their_limit.ensures.nothing price p r.0 cost f.settled ok r.1 f.settles h z) (sym c.num.ensures.value ∙ c.if-num-eq0.true) c.of.result c.of.ensures.equal c.of.ensures.lowest.positive,
  c.of.ensures.lowest,
)

pub returns-then-num-den-clause-answer : goal.returns-then-num-den-clause-answer
returns-then-num-den-clause-answer c =
    let p = source_of c.args.p.now in
    let ok = c.is_kept.ensures.kept in
    let failed = c.args.failed.now in
    let r = c.requires.costs in
    let f = c.requires.fails in
    let le : failed.1 ≤ failed.0 = omega (arith, c.if-num-den.true, c.num-2.ensures.value, c.den.ensures.value) in
    let some : 0 < c.args.cost.now.0 = omega (arith, c.if-num-eq0.false, c.num.ensures.value) in
    c.costs_tend_to_their_limit.ensures.unbounded (price_of c.args.what) p r.0 c.args.cost.now f.settled ok r.1 f.settles (all_fail p ok f.settled f.settles failed c.is_lowest.ensures.positive f.fraction f.fails le) some

pub returns-in-None-clause-cause : goal.returns-in-None-clause-cause
returns-in-None-clause-cause c =
    let failed = c.args.failed.now in
    let less : failed.0 < failed.1 = omega (arith, c.if-num-den.false, c.num-2.ensures.value, c.den.ensures.value) in
    let rounds = c.of-rounds.result in
    let rest : c.den-3.result - c.num-3.result ≡ failed.1 - failed.0 = ap (λ z. z - c.num-3.result) c.den-3.ensures.value ∙ ap (λ z. failed.1 - z) c.num-3.ensures.value in
    let equal : IsEqual rounds (failed.1, failed.1 - failed.0) = subst (λ z. IsEqual rounds (z, failed.1 - failed.0)) c.den-2.ensures.value (subst (λ z. IsEqual rounds (c.den-2.result, z)) rest c.of-rounds.ensures.equal) in
    rounds_blame c.args.cost.now failed rounds less equal c.of-rounds.ensures.lowest.positive (sym c.mul.ensures ∙ c.in-None.is)

pub returns-in-Some-clause-answer : goal.returns-in-Some-clause-answer
returns-in-Some-clause-answer c =
    let failed = c.args.failed.now in
    let less : failed.0 < failed.1 = omega (arith, c.if-num-den.false, c.num-2.ensures.value, c.den.ensures.value) in
    let rounds = c.of-rounds.result in
    let rest : c.den-3.result - c.num-3.result ≡ failed.1 - failed.0 = ap (λ z. z - c.num-3.result) c.den-3.ensures.value ∙ ap (λ z. failed.1 - z) c.num-3.ensures.value in
    let equal : IsEqual rounds (failed.1, failed.1 - failed.0) = subst (λ z. IsEqual rounds (z, failed.1 - failed.0)) c.den-2.ensures.value (subst (λ z. IsEqual rounds (c.den-2.result, z)) rest c.of-rounds.ensures.equal) in (
      let price = price_of c.args.what in
          let p = source_of c.args.p.now in
          let ok = c.is_kept.ensures.kept in
          let cost = c.args.cost.now in
          let r = c.requires.costs in
          let f = c.requires.fails in
          all_cost (expected_price price p) p ok cost (round_some price p cost r) failed c.is_lowest.ensures.positive f (λ h. c.costs_tend_to_their_limit.ensures.passes price p r.0 cost f.settled ok r.1 f.settles h) less rounds c.in-Some.all equal
          c.of-rounds.ensures.lowest.positive (sym c.mul.ensures ∙ c.in-Some.is) c.is_lowest-in-Some.ensures.positive,
      c.is_lowest-in-Some.ensures,
    )
