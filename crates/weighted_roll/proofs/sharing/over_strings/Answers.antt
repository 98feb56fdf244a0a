use Rattle.std.proofs.Common.{◌≡◌, ◌∙◌, ◌-◌, ◌*◌, ◌^◌, suc, ap, arith}
use Rattle.numbers.specs.Fraction.{lowest}
use Rattle.weighted_roll.proofs.Growing.{power_pos}
use Rattle.weighted_roll.proofs.Weighing.{twice_lowest}
use Rattle.weighted_roll.proofs.sharing.over_strings.Goals as goal

pub returns : goal.returns
returns c =
    let n : c.args.flips ≡ suc (c.args.flips - 1) = omega arith in
    let p : 2 ^ suc (c.args.flips - 1) ≡ 2 * 2 ^ (c.args.flips - 1) = omega arith in
    c.of-2.ensures.value
    ∙ ap (λ s. lowest (c.args.half, s)) c.strings_of.ensures
    ∙ twice_lowest c.args.half (2 ^ (c.args.flips - 1)) (power_pos (c.args.flips - 1))
    ∙ ap (λ s. lowest (2 * c.args.half, s)) (let q : 2 * 2 ^ (c.args.flips - 1) ≡ 2 ^ c.args.flips = omega (arith, ap (λ n. 2 ^ n) n, p) in q)
