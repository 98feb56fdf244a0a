use Rattle.exact_fold.proofs.Sums.{SumSoFar}
use Rattle.wide_masses.proofs.rest.total.Given as goal

abbrev pub invariant-loop-f : goal.invariant-loop-f
invariant-loop-f l = record {
  next : (goal.iterator-loop-f).can_next l.f-iterator;
  finite : (goal.iterator-loop-f).is_finite l.f-iterator;
  so_far : SumSoFar l.rows.entries l.f-iterator l.sum;
}
