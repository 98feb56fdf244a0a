use Rattle.gcl_core.specs.meaning.Views.{expression_of}
use Rattle.mass_fold.proofs.Results.{ResultsOn}
use Rattle.wide_masses.proofs.outcomes.add_results.Given as goal

abbrev pub invariant-loop-s : goal.invariant-loop-s
invariant-loop-s l = record {
  next : (goal.iterator-loop-s).can_next l.s-iterator;
  finite : (goal.iterator-loop-s).is_finite l.s-iterator;
  so_far : ResultsOn (expression_of l.e) l.table.states.entries l.fn.rows.entries l.rows.entries l.s-iterator;
}
