use Rattle.std.proofs.Common.{◌≡◌, []}
use Rattle.zar_io.specs.GoesOn.{GoesOn}
use Rattle.zar_io.specs.Trace.{World, Agrees, failures}
use Rattle.sampler_run.specs.Held.{set_back}
use Rattle.sampler_run.specs.Sampled.{WentOn}
use Rattle.sampler_run.specs.inner.Coming.{most_bits_to_come}
use Rattle.sampler_run.proofs.sampling.go_on.Given as goal

abbrev pub invariant-loop-outcome : goal.invariant-loop-outcome
invariant-loop-outcome g l = record {
  fails : failures (g.B.Bits.answered l.bits) ≡ failures (g.B.Bits.answered l.initial.bits);
  goes_on : GoesOn [] (g.B.Bits.answered l.initial.bits) (g.B.Bits.answered l.bits);
  ended : g.B.Bits.ended l.bits ≡ g.B.Bits.ended l.initial.bits;
  broken : g.B.Bits.broken l.bits ≡ g.B.Bits.broken l.initial.bits;
  source : g.B.Bits.source l.bits ≡ g.B.Bits.source l.initial.bits;
  start : set_back l.state ≡ set_back l.initial.state;
  went : (file : World) → Agrees file (g.B.Bits.answered l.bits) → WentOn l.initial.state l.state (g.B.Bits.left l.initial.bits file) (g.B.Bits.left l.bits file);
}

abbrev pub decreases-loop-outcome : goal.decreases-loop-outcome
decreases-loop-outcome g l = most_bits_to_come l.state
