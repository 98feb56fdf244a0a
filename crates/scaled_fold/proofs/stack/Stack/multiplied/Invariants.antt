use Rattle.std.proofs.Common.{◌≡◌, map, drop}
use Rattle.scaled_law.specs.Pairs.{merged_pairs}
use Rattle.scaled_law.specs.Scaled.{times_pairs}
use Rattle.scaled_fold.specs.inner.Stack.{stack_of}
use Rattle.scaled_fold.proofs.Stacks.{timed}
use Rattle.scaled_fold.proofs.stack.Stack.multiplied.Given as goal

abbrev pub invariant-loop-table : goal.invariant-loop-table
invariant-loop-table l = record {
  vars : l.more.vars ≡ l.self.vars;
  so_far : timed l.k (drop l.table-index l.table-items) (stack_of l.more) ≡ map (λ J. merged_pairs (times_pairs (l.k, 1) J)) (stack_of l.self);
}
