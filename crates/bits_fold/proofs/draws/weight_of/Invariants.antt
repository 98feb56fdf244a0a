use Rattle.bits_fold.proofs.DrawSums.{any, SumsSoFar}
use Rattle.bits_fold.proofs.draws.weight_of.Given as goal

abbrev pub invariant-loop-f : goal.invariant-loop-f
invariant-loop-f l = record {
  next : (goal.iterator-loop-f).can_next l.f-iterator;
  finite : (goal.iterator-loop-f).is_finite l.f-iterator;
  so_far : SumsSoFar any l.table.states.entries l.f-iterator l.sum;
}
