use Rattle.std.proofs.Common.{◌≡◌, []}
use Rattle.gcl_core.specs.meaning.Views.{expression_of}
use Rattle.gcl_core.specs.meaning.Value.{value_of}
use Rattle.table_flow.specs.Tables.{holds, fails}
use Rattle.mass_fold.specs.inner.Steps.{StepsOn}
use Rattle.table_flow.specs.Counts.{kept_if, stopped}
use Rattle.wide_fold.proofs.turning.split.Given as goal

abbrev pub invariant-loop-s : goal.invariant-loop-s
invariant-loop-s l = record {
  next : (goal.iterator-loop-s).can_next l.s-iterator;
  finite : (goal.iterator-loop-s).is_finite l.s-iterator;
  first_vars : l.first.vars ≡ l.fn.table.vars;
  second_vars : l.second.vars ≡ l.fn.table.vars;
  first : StepsOn (kept_if (holds (value_of (expression_of l.guard)))) (stopped (value_of (expression_of l.guard))) [] l.fn.table.states.entries l.fn.ended l.first.states.entries l.ended l.s-iterator;
  second : StepsOn (kept_if (fails (value_of (expression_of l.guard)))) (stopped (value_of (expression_of l.guard))) [] l.fn.table.states.entries l.fn.ended l.second.states.entries l.ended l.s-iterator;
}
