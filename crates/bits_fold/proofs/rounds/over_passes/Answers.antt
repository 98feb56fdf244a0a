use Rattle.std.proofs.Common.{◌≡◌, ◌-◌, ◌≤◌, ◌<◌, ◌∙◌, ap, subst, arith}
use Rattle.numbers.specs.Fraction.{IsEqual}
use Rattle.gcl_core.specs.meaning.Views.{source_of}
use Rattle.bits_fold.proofs.Programs.{all_fail}
use Rattle.bits_fold.proofs.RoundsBegun.{rounds_read}
use Rattle.bits_fold.proofs.rounds.over_passes.Goals as goal

pub returns-then-num-den : goal.returns-then-num-den
returns-then-num-den c =
    let p = source_of c.args.p.now in
    let ok = c.is_kept.ensures.kept in
    let failed = c.args.failed.now in
    let f = c.requires in
    let le : failed.1 ≤ failed.0 = omega (arith, c.if-num-den.true, c.num.ensures.value, c.den.ensures.value) in
    c.rounds_tend_to_their_limit.ensures.unbounded p f.settled ok f.settles (all_fail p ok f.settled f.settles failed c.is_lowest.ensures.positive f.fraction f.fails le)

pub returns : goal.returns
returns c =
    let failed = c.args.failed.now in
    let less : failed.0 < failed.1 = omega (arith, c.if-num-den.false, c.num.ensures.value, c.den.ensures.value) in
    let rounds = c.of.result in
    let rest : c.den-3.result - c.num-2.result ≡ failed.1 - failed.0 = ap (λ z. z - c.num-2.result) c.den-3.ensures.value ∙ ap (λ z. failed.1 - z) c.num-2.ensures.value in
    let equal : IsEqual rounds (failed.1, failed.1 - failed.0) = subst (λ z. IsEqual rounds (z, failed.1 - failed.0)) c.den-2.ensures.value (subst (λ z. IsEqual rounds (c.den-2.result, z)) rest c.of.ensures.equal) in (
      rounds_read (source_of c.args.p.now) c.is_kept.ensures.kept failed c.is_lowest.ensures.positive c.requires c.rounds_tend_to_their_limit.ensures.passes less rounds equal c.of.ensures.lowest.positive,
      c.of.ensures.lowest,
    )
