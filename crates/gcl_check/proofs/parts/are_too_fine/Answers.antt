use Rattle.std.proofs.Common.{◌≡◌, ◌∙◌, ℕ, ◌+◌, ◌/◌, ◌<◌, List, map, length, get_or, take, sym, ap, arith}
use Rattle.std.specs.List.{sum, sum_by}
use Rattle.std.proofs.lemmas.Bool.Decides.{nat_tests}
use Rattle.std.proofs.lemmas.List.Sums.{sum-map, sum_by_more, sum_by-take-le}
use Rattle.gcl_core.specs.declared.rules.TheConstants.{GREATEST_DENOMINATOR}
use Rattle.gcl_core.specs.meaning.Arms.{parts_of}
use Rattle.gcl_core.specs.meaning.Divisor.{common_divisor}
use Rattle.gcl_core.specs.meaning.Lowest.{lowest_parts}
use Rattle.gcl_core.specs.meaning.Views.{list_of_arms}
use Rattle.gcl_check.proofs.parts.are_too_fine.Goals as goal

-- the parts up to one, each over the divisor, are above a bound already
above : (bound : ℕ) (ps : List ℕ) (d i p total : ℕ) → d ≡ common_divisor ps → total ≡ sum_by (λ p. p / d) (take i ps) → i < length ps → p ≡ get_or ps i 0 → bound < total + p / d →
    bound < sum (lowest_parts ps)
above bound ps d i p total divisor so_far lt is over =
    let more = sum_by_more (λ p. p / d) ps i 0 lt in
    let same = ap (λ q. q / d) is in
    let le = sum_by-take-le (λ p. p / d) ps (i + 1) in
    let whole : sum (lowest_parts ps) ≡ sum_by (λ p. p / d) ps = ap (λ g. sum (map (λ p. p / g) ps)) (sym divisor) ∙ sum-map (λ p. p / d) ps in
    omega (arith, more, same, le, whole, so_far, over)

pub returns-then-lowest-total : goal.returns-then-lowest-total
returns-then-lowest-total c =
    let over = above GREATEST_DENOMINATOR (parts_of (list_of_arms c.args.arms.now)) _ c.loop-i.i c.part.result _ c.divisor-divisor.ensures.divisor c.loop-i.invariant.so_far (omega arith) c.part.ensures (omega arith) in
    grind (arith, nat_tests)
