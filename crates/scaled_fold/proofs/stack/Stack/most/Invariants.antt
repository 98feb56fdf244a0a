use Rattle.std.proofs.Common.{◌≡◌, ◌+◌, drop}
use Rattle.scaled_fold.proofs.Stacks.{most_in}
use Rattle.scaled_fold.proofs.stack.Stack.most.Given as goal

abbrev pub invariant-loop-table : goal.invariant-loop-table
invariant-loop-table l = record { so_far : l.most + most_in (drop l.table-index l.table-items) ≡ most_in l.table-items }
