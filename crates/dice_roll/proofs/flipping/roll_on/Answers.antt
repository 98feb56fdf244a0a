use Rattle.std.proofs.Common.{◌≡◌, ◌∙◌, ◌<◌, ◌≤◌, [], Some, None, refl, ap, subst, arith}
use Rattle.std.specs.Prelude.{IfSome, IfNone}
use Rattle.zar_io.specs.Trace.{World, Agrees}
use Rattle.zar_io.proofs.TraceLemmas.{agrees_before}
use Rattle.dice_roll.specs.inner.Flipped.{FlippedOrNone}
use Rattle.dice_roll.proofs.Flipped.{not_flipped, flipped_then, ends_without_bits, ends_at_label, ends_at_limit}
use Rattle.dice_roll.proofs.Reading.{still_there, none_read, read_on}
use Rattle.dice_roll.proofs.flipping.roll_on.Goals as goal

pub loop-read-init : goal.loop-read-init
loop-read-init g c = record {
  stands = c.requires.stands;
  few = omega arith;
  same_labels = refl;
  flipped = λ file agrees. ([], not_flipped g.F.Flips.rolls c.args.flips c.args.under_way.now 0, refl);
  bits = none_read g.B.Bits.answered g.B.Bits.ended g.B.Bits.broken g.B.Bits.source c.args.bits.now;
}

-- ---- where there is no bit

pub returns-in-None-clause-answer : goal.returns-in-None-clause-answer
returns-in-None-clause-answer g c file agrees =
    let on = c.in_ok-flip_on.ensures in
    let between = g.B.Bits.left c.loop-read.bits file in
    let left = g.B.Bits.left c.flip_on.new.bits file in
    let earlier = agrees_before file [] (g.B.Bits.answered c.loop-read.bits) (g.B.Bits.answered c.flip_on.new.bits) on.goes_on agrees in
    let none = subst (λ made. FlippedOrNone g.F.Flips.rolls c.args.flips c.loop-read.under_way c.flip_on.new.under_way c.loop-read.read made between left) c.in-None.is (on.flipped file agrees) in
    (ends_without_bits g.F.Flips.rolls c.args.flips c.args.under_way.now c.loop-read.under_way c.loop-read.read (g.B.Bits.left c.args.bits.now file) left between
    (c.loop-read.invariant.flipped file earlier) none (g.met.F.Flips.no_bit_left c.loop-read.under_way) c.loop-read-test.true).0

pub returns-in-None-clause-taken : goal.returns-in-None-clause-taken
returns-in-None-clause-taken g c file agrees =
    let on = c.in_ok-flip_on.ensures in
    let between = g.B.Bits.left c.loop-read.bits file in
    let left = g.B.Bits.left c.flip_on.new.bits file in
    let earlier = agrees_before file [] (g.B.Bits.answered c.loop-read.bits) (g.B.Bits.answered c.flip_on.new.bits) on.goes_on agrees in
    let none = subst (λ made. FlippedOrNone g.F.Flips.rolls c.args.flips c.loop-read.under_way c.flip_on.new.under_way c.loop-read.read made between left) c.in-None.is (on.flipped file agrees) in
    (ends_without_bits g.F.Flips.rolls c.args.flips c.args.under_way.now c.loop-read.under_way c.loop-read.read (g.B.Bits.left c.args.bits.now file) left between
    (c.loop-read.invariant.flipped file earlier) none (g.met.F.Flips.no_bit_left c.loop-read.under_way) c.loop-read-test.true).1

-- ---- at a label

pub returns-in-Some-Some-default-clause-answer : goal.returns-in-Some-Some-default-clause-answer
returns-in-Some-Some-default-clause-answer g c file agrees =
    let on = c.in_ok-flip_on.ensures in
    let at = c.in-Some-Some-default in
    let between = g.B.Bits.left c.loop-read.bits file in
    let left = g.B.Bits.left c.flip_on.new.bits file in
    let earlier = agrees_before file [] (g.B.Bits.answered c.loop-read.bits) (g.B.Bits.answered c.flip_on.new.bits) on.goes_on agrees in
    let flipped = subst (λ made. FlippedOrNone g.F.Flips.rolls c.args.flips c.loop-read.under_way c.flip_on.new.under_way c.loop-read.read made between left)
    (at.is ∙ ap (λ label. Some (label, at.after)) at.field-0-0-is) (on.flipped file agrees) in
    (ends_at_label g.F.Flips.rolls c.args.flips c.args.under_way.now c.flip_on.new.under_way at.after (g.B.Bits.left c.args.bits.now file) left at.label
    (flipped_then g.F.Flips.rolls c.args.flips c.args.under_way.now c.loop-read.under_way c.flip_on.new.under_way 0 c.loop-read.read at.after (Some at.label) _ between left
    (c.loop-read.invariant.flipped file earlier) flipped)).0

pub returns-in-Some-Some-default-clause-taken : goal.returns-in-Some-Some-default-clause-taken
returns-in-Some-Some-default-clause-taken g c file agrees =
    let on = c.in_ok-flip_on.ensures in
    let at = c.in-Some-Some-default in
    let between = g.B.Bits.left c.loop-read.bits file in
    let left = g.B.Bits.left c.flip_on.new.bits file in
    let earlier = agrees_before file [] (g.B.Bits.answered c.loop-read.bits) (g.B.Bits.answered c.flip_on.new.bits) on.goes_on agrees in
    let flipped = subst (λ made. FlippedOrNone g.F.Flips.rolls c.args.flips c.loop-read.under_way c.flip_on.new.under_way c.loop-read.read made between left)
    (at.is ∙ ap (λ label. Some (label, at.after)) at.field-0-0-is) (on.flipped file agrees) in
    (ends_at_label g.F.Flips.rolls c.args.flips c.args.under_way.now c.flip_on.new.under_way at.after (g.B.Bits.left c.args.bits.now file) left at.label
    (flipped_then g.F.Flips.rolls c.args.flips c.args.under_way.now c.loop-read.under_way c.flip_on.new.under_way 0 c.loop-read.read at.after (Some at.label) _ between left
    (c.loop-read.invariant.flipped file earlier) flipped)).1

-- ---- on

pub loop-read-preserved : goal.loop-read-preserved
loop-read-preserved g c =
    let so_far = c.loop-read.invariant in
    let on = c.in_ok-flip_on.ensures in
    let at = c.in-Some-None-default in
    let is = at.is ∙ ap (λ label. Some (label, at.after)) at.field-0-0-is in
    let counted = subst (λ made. IfSome made (λ p. (c.loop-read.read < p.1) × (p.1 ≤ c.args.flips))) is on.counted in
    let left = λ (file : World). g.B.Bits.left c.flip_on.new.bits file in
    let between = λ (file : World). g.B.Bits.left c.loop-read.bits file in
    let earlier = λ (file : World) (agrees : Agrees file (g.B.Bits.answered c.flip_on.new.bits)).
    agrees_before file [] (g.B.Bits.answered c.loop-read.bits) (g.B.Bits.answered c.flip_on.new.bits) on.goes_on agrees in
    record {
      stands = subst (λ made. IfSome made (λ p. IfNone p.0 (g.F.Flips.Stands c.flip_on.new.under_way p.1))) is on.stands;
      few = counted.1;
      same_labels = on.same_labels ∙ so_far.same_labels;
      flipped = λ file agrees. flipped_then g.F.Flips.rolls c.args.flips c.args.under_way.now c.loop-read.under_way c.flip_on.new.under_way 0 c.loop-read.read at.after None _ (between file) (left file)
          (so_far.flipped file (earlier file agrees))
          (subst (λ made. FlippedOrNone g.F.Flips.rolls c.args.flips c.loop-read.under_way c.flip_on.new.under_way c.loop-read.read made (between file) (left file)) is (on.flipped file agrees));
      bits = read_on g.B.Bits.answered g.B.Bits.ended g.B.Bits.broken g.B.Bits.source c.args.bits.now c.loop-read.bits c.flip_on.new.bits c.loop-read.read at.after so_far.bits
          (λ had_ended. still_there _ (on.stays_ended had_ended) is) on.fails on.goes_on (rw at.is at on.ended) on.broken on.same_source;
    }

-- ---- at the limit

pub returns-clause-answer : goal.returns-clause-answer
returns-clause-answer g c file agrees =
    let all : c.loop-read.read ≡ c.args.flips = omega (arith, c.loop-read.invariant.few, c.loop-read-test.false) in
    (ends_at_limit g.F.Flips.rolls c.args.flips c.args.under_way.now c.loop-read.under_way c.loop-read.read (g.B.Bits.left c.args.bits.now file) (g.B.Bits.left c.loop-read.bits file)
    (c.loop-read.invariant.flipped file agrees) (g.met.F.Flips.no_flip_left c.loop-read.under_way) all).0

pub returns-clause-taken : goal.returns-clause-taken
returns-clause-taken g c file agrees =
    let all : c.loop-read.read ≡ c.args.flips = omega (arith, c.loop-read.invariant.few, c.loop-read-test.false) in
    (ends_at_limit g.F.Flips.rolls c.args.flips c.args.under_way.now c.loop-read.under_way c.loop-read.read (g.B.Bits.left c.args.bits.now file) (g.B.Bits.left c.loop-read.bits file)
    (c.loop-read.invariant.flipped file agrees) (g.met.F.Flips.no_flip_left c.loop-read.under_way) all).1
