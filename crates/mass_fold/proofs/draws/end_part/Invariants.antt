use Rattle.std.proofs.Common.{[]}
use Rattle.table_flow.specs.Counts.{none_kept, all_stopped}
use Rattle.mass_fold.specs.inner.Ended.{end_of}
use Rattle.mass_fold.specs.inner.Steps.{DrawsOn}
use Rattle.mass_fold.proofs.draws.end_part.Given as goal

abbrev pub invariant-loop-f : goal.invariant-loop-f
invariant-loop-f l = record {
  next : (goal.iterator-loop-f).can_next l.f-iterator;
  finite : (goal.iterator-loop-f).is_finite l.f-iterator;
  so_far : DrawsOn (λ s. l.w) (λ s. l.w) none_kept (all_stopped (end_of l.x)) l.table.states.entries l.fn.ended [] l.ended l.f-iterator;
}
