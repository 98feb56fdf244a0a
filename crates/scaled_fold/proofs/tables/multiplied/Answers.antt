use Rattle.std.proofs.Common.{sym, ap, length, ◌∙◌}
use Rattle.std.specs.Map.Iter.{deref_pair}
use Rattle.scaled_fold.proofs.Sizes.{sized_at}
use Rattle.scaled_fold.proofs.tables.multiplied.Goals as goal

pub put-requires : goal.put-requires
put-requires c = record {
  sized = ap length c.in_ok-copy.ensures ∙ sized_at _ _ c.args.table.now.sized deref_pair _ _ _ _ _ _ c.into_iter-s-iterator.ensures.into_iter_gives.0 c.loop-s.yielded_by c.in-Some.is c.next.ensures.steps ∙ sym c.loop-s.invariant.vars;
}
