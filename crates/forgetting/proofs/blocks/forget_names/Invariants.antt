use Rattle.std.proofs.Common.{◌≡◌}
use Rattle.std.specs.Prelude.{reverse}
use Rattle.gcl_core.specs.meaning.Views.{list_of}
use Rattle.forgetting.specs.Forgetful.{forget}
use Rattle.forgetting.specs.Marks.{marked}
use Rattle.forgetting.proofs.blocks.forget_names.Given as goal

abbrev pub invariant-loop-x : goal.invariant-loop-x
invariant-loop-x l = record {
  made : list_of (reverse l.reversed.items) ≡ forget l.x (marked l.old.marks) (marked l.kept.marks) (list_of (reverse l.fn.reversed.items));
}
