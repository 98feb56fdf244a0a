use Rattle.gcl_core.specs.meaning.Views.{expression_of}
use Rattle.gcl_core.specs.meaning.Value.{value_of}
use Rattle.bits_fold.specs.Counted.{price_of}
use Rattle.bits_fold.proofs.DrawSums.{bound_of, SumsSoFar}
use Rattle.bits_fold.proofs.draws.cost_of_uniform.Given as goal

abbrev pub invariant-loop-s : goal.invariant-loop-s
invariant-loop-s l = record {
  next : (goal.iterator-loop-s).can_next l.s-iterator;
  finite : (goal.iterator-loop-s).is_finite l.s-iterator;
  so_far : SumsSoFar (bound_of (price_of l.what) (value_of (expression_of l.e))) l.table.states.entries l.s-iterator l.sum;
}
