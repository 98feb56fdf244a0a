use Rattle.std.proofs.Common.{sym, ◌∙◌}
use Rattle.scaled_fold.proofs.Sizes.{sized_at}
use Rattle.scaled_fold.proofs.tables.merge.Goals as goal

pub put-requires : goal.put-requires
put-requires c = record {
  sized = sized_at _ _ c.args.table.sized (λ e. e) _ _ _ _ _ _ c.into_iter-s-iterator.ensures.into_iter_gives.0 c.loop-s.yielded_by c.in-Some.is c.next.ensures.steps ∙ c.requires.vars ∙ sym c.loop-s.invariant.vars;
}
