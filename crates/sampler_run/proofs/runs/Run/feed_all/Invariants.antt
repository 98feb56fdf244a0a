use Rattle.std.proofs.Common.{◌≡◌, take}
use Rattle.sampler_run.specs.Held.{StandsAfter, set_back}
use Rattle.sampler_run.proofs.runs.Run.feed_all.Given as goal

abbrev pub invariant-loop-bit : goal.invariant-loop-bit
invariant-loop-bit l =
    StandsAfter (take l.bit-index l.bits) l.initial.self l.self × (set_back l.self ≡ set_back l.initial.self)
