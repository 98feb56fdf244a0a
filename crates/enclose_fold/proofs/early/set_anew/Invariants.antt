use Rattle.std.proofs.Common.{◌≡◌, ◌+◌, false}
use Rattle.enclose_fold.specs.inner.Between.{between}
use Rattle.enclose_fold.specs.inner.Exact.{any_rounds}
use Rattle.enclose_fold.proofs.early.set_anew.Given as goal

abbrev pub invariant-loop-at : goal.invariant-loop-at
invariant-loop-at l = any_rounds (between (l.from + 1) l.at l.block.stmts.items) ≡ false
