use Rattle.std.proofs.Common.{◌≡◌}
use Rattle.gcl_core.specs.meaning.Views.{statements_of}
use Rattle.unlimited_law.specs.Alike.{Alike}
use Rattle.unlimited_law.specs.Settling.{BlockSettles}
use Rattle.wide_fold.proofs.FromEach.{SourcesOn}
use Rattle.wide_fold.proofs.sources.block_from_each.Given as goal

abbrev pub invariant-loop-state : goal.invariant-loop-state
invariant-loop-state l = record {
  next : (goal.iterator-loop-state).can_next l.state-iterator;
  finite : (goal.iterator-loop-state).is_finite l.state-iterator;
  vars : l.out.vars ≡ l.fn.table.vars;
  so_far : SourcesOn (BlockSettles Alike Alike (statements_of l.block)) l.fn.table.states.entries l.fn.ended l.state-iterator l.out.states.entries l.ended;
}
