use Rattle.std.specs.Prelude.{◌≡◌, ◌+◌, ◌^◌, ◌<◌, Some, slice_get}
use Rattle.sampler_code.specs.Views.{instruction_of}
use Rattle.zar_io.specs.FileBits.{low_bits}
use Rattle.sampler_code.specs.inner.Bounded.{rest_of}
use Rattle.sampler_code.specs.inner.Bounded.{Answered}
use Rattle.sampler_run.specs.inner.Shape.{SameShape}
use Rattle.sampler_run.specs.inner.Taken.{Takes}
use Rattle.sampler_run.specs.Views.{machine_of}
use Rattle.sampler_run.specs.inner.Going.{to_go}
use Rattle.sampler_run.proofs.stepping.run_word.Given as goal

abbrev pub invariant-loop-outcome : goal.invariant-loop-outcome
invariant-loop-outcome l = record {
  shape : SameShape l.initial.m l.m;
  here : l.here ≡ l.m.index;
  at : slice_get l.code.instrs l.m.index ≡ Some (instruction_of l.i);
  within : l.m.index + 1 < 2 ^ 64;
  answered : Answered l.code.instrs l.limits (machine_of l.m);
  takes : Takes (rest_of l.code.instrs l.limits (machine_of l.initial.m)) (rest_of l.code.instrs l.limits (machine_of l.m)) (low_bits l.left l.word) (low_bits l.rest l.word);
}

abbrev pub decreases-loop-outcome : goal.decreases-loop-outcome
decreases-loop-outcome l = to_go l.code.instrs l.limits l.rest (machine_of l.m)
