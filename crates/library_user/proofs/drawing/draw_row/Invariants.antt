use Rattle.std.proofs.Common.{◌≡◌, []}
use Rattle.zar_io.specs.GoesOn.{GoesOn}
use Rattle.zar_io.specs.Trace.{World, Agrees, failures}
use Rattle.gcl_core.specs.meaning.Runs.{reads}
use Rattle.gcl_core.specs.meaning.Views.{source_of}
use Rattle.sampler_run.specs.Held.{StandsAfter, set_back}
use Rattle.library_user.proofs.Rows.{IsSoFar}
use Rattle.library_user.proofs.drawing.draw_row.Given as goal

-- the state stands before its first bit; and what was drawn so far, and then what the rest gives
abbrev pub invariant-loop-i : goal.invariant-loop-i
invariant-loop-i g l =
    record {
      home : StandsAfter [] (set_back l.initial.state) l.state;
      start : set_back l.state ≡ set_back l.initial.state;
      drawn : (file : World) → Agrees file (g.B.Bits.answered l.bits)
          → IsSoFar (reads (source_of l.p) l.l) l.count l._i (g.B.Bits.left l.initial.bits file) l.row.items (g.B.Bits.left l.bits file);
      fails : failures (g.B.Bits.answered l.bits) ≡ failures (g.B.Bits.answered l.initial.bits);
    }
