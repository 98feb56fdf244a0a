use Rattle.std.proofs.Common.{◌≡◌, Some, drop}
use Rattle.formula.specs.inner.OneRead.{stacked, waiting}
use Rattle.formula.specs.ReadBack.{read, expression_in}
use Rattle.formula.proofs.reading.read_back.Given as goal

abbrev pub invariant-loop-op : goal.invariant-loop-op
invariant-loop-op l = read (drop l.op-index l.steps) (waiting l.pending.items) (stacked l.stack.items) ≡ Some (expression_in l.steps)
