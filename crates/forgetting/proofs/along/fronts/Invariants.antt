use Rattle.std.proofs.Common.{◌≡◌, ℕ, ◌+◌, ◌≤◌, length, get_or}
use Rattle.forgetting.specs.declared.name_set.NameSet.{NameSet}
use Rattle.forgetting.specs.Marks.{marked}
use Rattle.forgetting.specs.inner.Fronts.{filled_at}
use Rattle.forgetting.proofs.along.fronts.Given as goal

abbrev pub invariant-loop-i : goal.invariant-loop-i
invariant-loop-i l = record {
  place : l.i ≤ length l.block.stmts.items;
  length : length l.sets.items ≡ l.i + 1;
  front : marked l.set.marks ≡ filled_at l.i l.block.stmts.items (marked l.fn.filled.marks);
  sets : (k : ℕ) (d : NameSet) → k ≤ l.i → marked (get_or l.sets.items k d).marks ≡ filled_at k l.block.stmts.items (marked l.fn.filled.marks);
}
