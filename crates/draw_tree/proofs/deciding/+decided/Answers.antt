use Rattle.std.proofs.Common.{◌≡◌, ◌≤◌, ◌-◌, ◌*◌, ◌^◌, ◌%◌, arith}
use Rattle.gcl_core.proofs.Strings.{shifted_one}
use Rattle.draw_tree.proofs.LeastPower.{half_power}
use Rattle.draw_tree.proofs.deciding.+decided.Goals as goal

pub decided-requires : goal.decided-requires
decided-requires t c =
    let some : 1 ≤ c.args.depth = c.in_default.ensures.last in
    let half = half_power c.args.depth some in
    (omega arith, (c.requires.ends, (omega arith, omega arith)))

pub decided-requires-2 : goal.decided-requires-2
decided-requires-2 t c =
    let some : 1 ≤ c.args.depth = c.in_default.ensures.last in
    let half = half_power c.args.depth some in
    let one : 1 * 2 ^ (c.args.depth - 1) % 2 ^ 64 ≡ 2 ^ (c.args.depth - 1) = shifted_one (c.args.depth - 1) (omega arith) in
    (omega arith, (c.requires.ends, (omega arith, omega arith)))
