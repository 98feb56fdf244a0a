use Rattle.std.proofs.Common.{◌≡◌, [], length}
use Rattle.zar_io.specs.Trace.{World, Agrees, failures}
use Rattle.gcl_core.specs.meaning.Views.{source_of}
use Rattle.sampler_run.specs.Held.{StandsAfter, set_back}
use Rattle.bit_runs.proofs.OneByOne.{IsSoFar}
use Rattle.bit_runs.proofs.rows.draws_in_a_row.Given as goal

-- the state stands before its first bit; and the places that were written are right
abbrev pub invariant-loop-k : goal.invariant-loop-k
invariant-loop-k g l =
    record {
      alike : length l.ends ≡ length l.values;
      same_length : length l.values ≡ length l.initial.values;
      home : StandsAfter [] (set_back l.initial.state) l.state;
      start : set_back l.state ≡ set_back l.initial.state;
      so_far : (file : World) → Agrees file (g.B.Bits.answered l.bits)
          → IsSoFar (source_of l.program) l.l l.k (g.B.Bits.left l.initial.bits file) (g.B.Bits.left l.bits file) l.values l.ends l.read;
      fails : failures (g.B.Bits.answered l.bits) ≡ failures (g.B.Bits.answered l.initial.bits);
    }
