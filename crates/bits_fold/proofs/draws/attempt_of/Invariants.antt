use Rattle.std.proofs.Common.{◌≡◌}
use Rattle.mass_fold.proofs.ArmsLeft.{EndsAt}
use Rattle.bits_fold.proofs.draws.attempt_of.Given as goal

abbrev pub invariant-loop-part : goal.invariant-loop-part
invariant-loop-part l = record {
  many : l.count ≡ l.part-index;
  at : EndsAt l.ends l.end l.part-index l.part-items;
}
