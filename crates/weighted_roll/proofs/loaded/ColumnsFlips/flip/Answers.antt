use Rattle.std.proofs.Common.{◌*◌, ◌+◌, refl, sym, arith}
use Rattle.dice_roll.proofs.Labels.{bit-le}
use Rattle.weighted_roll.specs.inner.Tables.{after_flips}
use Rattle.weighted_roll.proofs.Passing.{leaf_below}
use Rattle.weighted_roll.proofs.Walking.{flips_to_leaf, flips_on}
use Rattle.weighted_roll.proofs.Tabled.{after_long, after_one}
use Rattle.weighted_roll.proofs.Stepping.{stands_number, stands_next}
use Rattle.weighted_roll.proofs.loaded.ColumnsFlips.flip.Goals as goal

pub overflow_mul-self : goal.overflow_mul-self
overflow_mul-self c =
    let s = c.args.self.now in
    let table = s.table.now in
    omega (arith, stands_number table.whole table.depth c.args.read s.number table.weights.items s.room.now table.below c.requires table.some, table.fewer)

pub overflow_add-self : goal.overflow_add-self
overflow_add-self c =
    let s = c.args.self.now in
    let table = s.table.now in
    omega (arith, stands_number table.whole table.depth c.args.read s.number table.weights.items s.room.now table.below c.requires table.some, table.fewer, bit-le c.args.bit)

pub returns-in-Leaf-clause-rolled : goal.returns-in-Leaf-clause-rolled
returns-in-Leaf-clause-rolled c h rest =
    let s = c.args.self.now in
    let table = s.table.now in
    flips_to_leaf table.whole h s.number c.args.read c.from.result (after_flips table.whole c.args.read table.weights.items) c.args.bit rest c.from.ensures
    c.in-Leaf.label c.in-Leaf.ensures.column

pub returns-in-Leaf-clause-within : goal.returns-in-Leaf-clause-within
returns-in-Leaf-clause-within c =
    let s = c.args.self.now in
    let table = s.table.now in
    let below = leaf_below table.whole (after_flips table.whole c.args.read table.weights.items) 0 (2 * s.number + c.from.result) c.in-Leaf.label (sym c.in-Leaf.ensures.column) in
    omega (arith, below, after_long table.whole c.args.read table.weights.items, c.requires.long)

pub returns-in-Rest-clause-rolled : goal.returns-in-Rest-clause-rolled
returns-in-Rest-clause-rolled c h rest =
    let s = c.args.self.now in
    let table = s.table.now in
    let rests = after_flips table.whole c.args.read table.weights.items in
    let next = after_one table.whole c.args.read table.weights.items rests _ refl refl in
    flips_on table.whole h s.number c.args.read c.from.result rests c.args.bit rest c.from.ensures c.in-Rest.left (after_flips table.whole (c.args.read + 1) table.weights.items)
    c.in-Rest.ensures.column (sym next)

pub returns-in-Rest-clause-stands : goal.returns-in-Rest-clause-stands
returns-in-Rest-clause-stands c =
    let s = c.args.self.now in
    let table = s.table.now in
    stands_next table.whole table.depth c.args.read s.number table.weights.items s.room.now table.below c.requires c.from.result c.in-Rest.left c.args.bit c.step.new.room
    c.from.ensures c.in-Rest.ensures.column c.in-Rest.ensures.held c.step.auto.room
