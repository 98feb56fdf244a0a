use Rattle.std.proofs.Common.{◌≡◌, ◌≤◌, ◌-◌, ◌*◌, ◌^◌, ◌%◌, arith}
use Rattle.gcl_core.proofs.Strings.{shifted_one}
use Rattle.draw_tree.proofs.LeastPower.{half_power}
use Rattle.attempt_bits.proofs.Stretches.{depth_below}
use Rattle.attempt_bits.proofs.uniforms.+undecided.Goals as goal

pub undecided-right-requires : goal.undecided-right-requires
undecided-right-requires t c =
    let some : 1 ≤ c.args.depth = omega arith in
    let half = half_power c.args.depth some in
    let one : 1 * 2 ^ (c.args.depth - 1) % 2 ^ 64 ≡ 2 ^ (c.args.depth - 1) = shifted_one (c.args.depth - 1) (omega arith) in
    (omega arith, (omega arith, (omega arith, omega arith)))

pub returns-then-rest-half-clause-most : goal.returns-then-rest-half-clause-most
returns-then-rest-half-clause-most t c =
    let one : 1 * 2 ^ (c.args.depth - 1) % 2 ^ 64 ≡ 2 ^ (c.args.depth - 1) = shifted_one (c.args.depth - 1) (omega arith) in
    depth_below c.args.depth c.from-wide.result c.from.result c.undecided-right.result (omega arith) (omega (arith, one, c.from-wide.ensures)) (omega (arith, c.from.ensures)) c.undecided-right.ensures.most
