use Rattle.std.proofs.Common.{◌≡◌, ◌≤◌, ◌-◌, ◌*◌, ◌^◌, ◌%◌, ap, sym, ◌∙◌, arith}
use Rattle.gcl_core.specs.meaning.Draw.{have_one_class}
use Rattle.gcl_core.proofs.Strings.{shifted_one}
use Rattle.draw_tree.proofs.LeastPower.{half_power}
use Rattle.attempt_bits.proofs.Stretches.{depth_most, none_inside}
use Rattle.attempt_bits.proofs.choices.+undecided.Goals as goal

pub undecided-left-requires : goal.undecided-left-requires
undecided-left-requires t c =
    let some : 1 ≤ c.args.depth = omega arith in
    let half = half_power c.args.depth some in
    (omega arith, (omega arith, omega arith))

pub undecided-right-requires : goal.undecided-right-requires
undecided-right-requires t c =
    let some : 1 ≤ c.args.depth = omega arith in
    let half = half_power c.args.depth some in
    let one : 1 * 2 ^ (c.args.depth - 1) % 2 ^ 64 ≡ 2 ^ (c.args.depth - 1) = shifted_one (c.args.depth - 1) (omega arith) in
    (omega arith, (omega arith, omega arith))

pub returns-in-Some-clause-value : goal.returns-in-Some-clause-value
returns-in-Some-clause-value t c =
    let all : 1 * 2 ^ c.args.depth % 2 ^ 64 ≡ 2 ^ c.args.depth = shifted_one c.args.depth c.requires.depth in
    sym (none_inside c.args.ends.now c.args.depth c.args.first (ap (have_one_class c.args.ends.now c.args.first) (sym all) ∙ c.in-Some.ensures.0))

pub returns-in-None-clause-most : goal.returns-in-None-clause-most
returns-in-None-clause-most t c =
    let one : 1 * 2 ^ (c.args.depth - 1) % 2 ^ 64 ≡ 2 ^ (c.args.depth - 1) = shifted_one (c.args.depth - 1) (omega arith) in
    depth_most c.args.depth c.from.result c.undecided-left.result c.undecided-right.result (omega arith) (omega (arith, one, c.from.ensures)) c.undecided-left.ensures.most c.undecided-right.ensures.most
