use Rattle.std.proofs.Common.{◌∙◌, ap}
use Rattle.numbers.specs.Fraction.{lowest}
use Rattle.wide_masses.proofs.Keys.{in_lowest}
use Rattle.wide_masses.proofs.outcomes.copied.Goals as goal

pub returns : goal.returns
returns c =
    in_lowest c.args.fraction.now _ c.num.ensures.lowest
    (c.in_ok-of.ensures.0 ∙ ap (λ n. lowest (n, c.den.result.now)) c.num.ensures.value ∙ ap (λ d. lowest (c.args.fraction.now.0, d)) c.den.ensures.value)
