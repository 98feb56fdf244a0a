use Rattle.std.proofs.Common.{◌*◌, ◌+◌, sym, arith}
use Rattle.dice_roll.proofs.Labels.{bit-le}
use Rattle.weighted_roll.proofs.Passing.{leaf_below}
use Rattle.weighted_roll.proofs.Walking.{walk_number, walk_next, flips_to_leaf, flips_on}
use Rattle.weighted_roll.proofs.rolling.RemaindersFlips.flip.Goals as goal

pub overflow_mul-self : goal.overflow_mul-self
overflow_mul-self c =
    let s = c.args.self.now in
    omega (arith, walk_number s.whole s.number s.rests.now c.requires.some c.requires.walk, c.requires.few)

pub overflow_add-self : goal.overflow_add-self
overflow_add-self c =
    let s = c.args.self.now in
    omega (arith, walk_number s.whole s.number s.rests.now c.requires.some c.requires.walk, c.requires.few, bit-le c.args.bit)

pub returns-in-Leaf-clause-rolled : goal.returns-in-Leaf-clause-rolled
returns-in-Leaf-clause-rolled c h rest =
    let s = c.args.self.now in
    flips_to_leaf s.whole h s.number c.args._read c.from.result s.rests.now c.args.bit rest c.from.ensures c.in-Leaf.label c.in-Leaf.ensures.column

pub returns-in-Leaf-clause-within : goal.returns-in-Leaf-clause-within
returns-in-Leaf-clause-within c =
    let s = c.args.self.now in
    omega (arith, leaf_below s.whole s.rests.now 0 (2 * s.number + c.from.result) c.in-Leaf.label (sym c.in-Leaf.ensures.column))

pub returns-in-Rest-clause-rolled : goal.returns-in-Rest-clause-rolled
returns-in-Rest-clause-rolled c h rest =
    let s = c.args.self.now in
    flips_on s.whole h s.number c.args._read c.from.result s.rests.now c.args.bit rest c.from.ensures c.in-Rest.left c.pass_labels.new.rests c.in-Rest.ensures.column c.in-Rest.ensures.rests

pub returns-in-Rest-clause-stands : goal.returns-in-Rest-clause-stands
returns-in-Rest-clause-stands c =
    let s = c.args.self.now in
    record {
      walk = walk_next s.whole s.number c.from.result c.in-Rest.left s.rests.now c.pass_labels.new.rests c.args.bit c.from.ensures c.requires.walk c.in-Rest.ensures.column c.in-Rest.ensures.rests;
      some = c.requires.some;
      small = c.requires.small;
      few = omega (arith, c.pass_labels.auto.rests, c.requires.few);
    }
