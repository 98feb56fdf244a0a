use Rattle.std.proofs.Common.{◌≡◌, [], ◌∷◌}
use Rattle.table_flow.specs.Tables.{below_go}
use Rattle.scaled_law.specs.Pairs.{counted_pairs, put_pairs}
use Rattle.scaled_fold.proofs.draws.spread.Given as goal

abbrev pub invariant-loop-i : goal.invariant-loop-i
invariant-loop-i l = record {
  vars : l.next.vars ≡ l.fn.into.vars;
  so_far : l.next.states.entries ≡ put_pairs l.fn.into.states.entries (below_go counted_pairs l.x l.i ((l.s, l.w) ∷ []));
}
