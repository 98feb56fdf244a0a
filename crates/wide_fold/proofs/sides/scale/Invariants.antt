use Rattle.std.proofs.Common.{◌≡◌}
use Rattle.mass_fold.specs.declared.ended.Ended.{Ended}
use Rattle.table_flow.specs.Counts.{all_kept, none_stopped}
use Rattle.mass_fold.specs.inner.Steps.{DrawsOn}
use Rattle.wide_fold.proofs.sides.scale.Given as goal

abbrev pub invariant-loop-state : goal.invariant-loop-state
invariant-loop-state l = record {
  next : (goal.iterator-loop-state).can_next l.state-iterator;
  finite : (goal.iterator-loop-state).is_finite l.state-iterator;
  vars : l.next.vars ≡ l.table.vars;
  so_far : (E : Ended) → DrawsOn (λ s. l.times) (λ s. l.times) all_kept none_stopped l.table.states.entries E l.next.states.entries E l.state-iterator;
}
