use Rattle.gcl_core.specs.meaning.Views.{expression_of}
use Rattle.gcl_core.specs.meaning.Value.{value_of}
use Rattle.mass_fold.specs.inner.Metering.{IsBoundPriced, bound_price, CountsRest}
use Rattle.mass_fold.proofs.meter.count_uniform.Given as goal

abbrev pub invariant-loop-s : goal.invariant-loop-s
invariant-loop-s l = record {
  next : (goal.iterator-loop-s).can_next l.s-iterator;
  finite : (goal.iterator-loop-s).is_finite l.s-iterator;
  so_far : CountsRest (IsBoundPriced (value_of (expression_of l.e)) l.attempts.most) (bound_price (value_of (expression_of l.e)) l.attempts.most) l.table.states.entries l.fn.meter l.now l.s-iterator;
}
