use Rattle.std.proofs.Common.{◌≡◌, ◌<◌, ◌≤◌, true, false}
use Rattle.narrow_fractions.specs.Euclid.{FromAbove, FromBelow}
use Rattle.narrow_fractions.proofs.fraction.narrow_fraction.Given as goal

abbrev pub invariant-loop-low : goal.invariant-loop-low
invariant-loop-low l = record {
  above : l.above ≡ true → FromAbove l.fn.m l.fn.n l.high l.low l.before l.now;
  below : l.above ≡ false → FromBelow l.fn.m l.fn.n l.high l.low l.before l.now;
  falls : l.low < l.high;
  tall : l.fn.bound ≤ l.high;
}

abbrev pub decreases-loop-low : goal.decreases-loop-low
decreases-loop-low l = l.low
