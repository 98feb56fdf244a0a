use Rattle.gcl_core.specs.meaning.Views.{expression_of}
use Rattle.scaled_fold.proofs.Adding.{ResultsLeft}
use Rattle.scaled_fold.proofs.outcomes.add_results.Given as goal

abbrev pub invariant-loop-s : goal.invariant-loop-s
invariant-loop-s l = record {
  next : (goal.iterator-loop-s).can_next l.s-iterator;
  finite : (goal.iterator-loop-s).is_finite l.s-iterator;
  so_far : ResultsLeft (expression_of l.e) l.fn.before.entries l.table.states.entries l.units.entries l.s-iterator;
}
