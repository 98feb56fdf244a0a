use Rattle.std.proofs.Common.{◌≡◌, drop}
use Rattle.gcl_core.specs.meaning.Views.{list_of}
use Rattle.enclose_fold.specs.inner.Exact.{any_rounds}
use Rattle.enclose_fold.proofs.early.+rounding.Given as goal

abbrev pub invariant-block_rounds-loop-statement : goal.invariant-block_rounds-loop-statement
invariant-block_rounds-loop-statement l = any_rounds (list_of (drop l.statement-index l.statement-items)) ≡ any_rounds (list_of l.statement-items)
