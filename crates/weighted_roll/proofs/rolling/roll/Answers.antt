use Rattle.std.proofs.Common.{◌≡◌, ◌∙◌, length, ap, subst, arith}
use Rattle.std.specs.List.{sum}
use Rattle.std.specs.Prelude.{IfOk}
use Rattle.zar_io.specs.Trace.{World, Agrees}
use Rattle.dice_roll.specs.Rolled.{TookEach}
use Rattle.weighted_roll.specs.WeightedRoll.{weighted_from}
use Rattle.weighted_roll.proofs.Walking.{walk_start}
use Rattle.weighted_roll.proofs.rolling.roll.Goals as goal

pub roll_on-requires-clause-stands : goal.roll_on-requires-clause-stands
roll_on-requires-clause-stands g c = record {
  walk = walk_start c.args.weights.now _ _ c.sum_of-whole.ensures c.copy_from_slice.ensures.after c.weights_are_small.ensures.below;
  some = omega (arith, c.sum_of-whole.ensures, c.weights_are_small.ensures.some);
  small = omega (arith, c.sum_of-whole.ensures, c.weights_are_small.ensures.small);
  few = omega (arith, ap length c.copy_from_slice.ensures.after, c.weights_are_small.ensures.few);
}

pub returns-clause-answer : goal.returns-clause-answer
returns-clause-answer g c =
    let start = ap (λ whole. weighted_from whole c.args.flips c.copy_from_slice.new.self 0 0) c.sum_of-whole.ensures
    ∙ ap (λ rests. weighted_from (sum c.args.weights.now) c.args.flips rests 0 0) c.copy_from_slice.ensures.after in
    subst (λ rolls. IfOk c.roll_on.result (λ r. (file : World) → Agrees file (g.B.Bits.answered c.roll_on.new.bits) → rolls (g.B.Bits.left c.args.bits.now file) ≡ r)) start
    c.roll_on.ensures.answer

pub returns-clause-taken : goal.returns-clause-taken
returns-clause-taken g c =
    let start = ap (λ whole. weighted_from whole c.args.flips c.copy_from_slice.new.self 0 0) c.sum_of-whole.ensures
    ∙ ap (λ rests. weighted_from (sum c.args.weights.now) c.args.flips rests 0 0) c.copy_from_slice.ensures.after in
    subst (λ rolls. IfOk c.roll_on.result (λ r. (file : World) → Agrees file (g.B.Bits.answered c.roll_on.new.bits)
    → TookEach rolls r (g.B.Bits.left c.args.bits.now file) (g.B.Bits.left c.roll_on.new.bits file))) start c.roll_on.ensures.taken
