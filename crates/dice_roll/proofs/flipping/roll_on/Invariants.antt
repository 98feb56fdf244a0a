use Rattle.std.proofs.Common.{◌≡◌, ◌-◌, ◌≤◌, None}
use Rattle.zar_io.specs.Trace.{World, Agrees}
use Rattle.dice_roll.specs.inner.Flipped.{FlippedOn}
use Rattle.dice_roll.proofs.Reading.{HasRead}
use Rattle.dice_roll.proofs.flipping.roll_on.Given as goal

abbrev pub invariant-loop-read : goal.invariant-loop-read
invariant-loop-read g l = record {
  stands : g.F.Flips.Stands l.under_way l.read;
  few : l.read ≤ l.flips;
  same_labels : g.F.Flips.labels l.under_way ≡ g.F.Flips.labels l.initial.under_way;
  flipped : (file : World) → Agrees file (g.B.Bits.answered l.bits) → FlippedOn g.F.Flips.rolls l.flips l.initial.under_way l.under_way 0 l.read None
      (g.B.Bits.left l.initial.bits file) (g.B.Bits.left l.bits file);
  bits : HasRead g.B.Bits.answered g.B.Bits.ended g.B.Bits.broken g.B.Bits.source l.initial.bits l.bits l.read;
}

abbrev pub decreases-loop-read : goal.decreases-loop-read
decreases-loop-read g l = l.flips - l.read
