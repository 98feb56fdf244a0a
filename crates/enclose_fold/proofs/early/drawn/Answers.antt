use Rattle.std.proofs.Common.{◌≡◌, ◌∙◌, length, ap}
use Rattle.std.specs.Map.Iter.{deref_pair}
use Rattle.gcl_core.specs.meaning.Views.{expression_of}
use Rattle.mass_fold.proofs.Moves.{reads_at}
use Rattle.enclose_fold.proofs.Sizes.{sized_at}
use Rattle.enclose_fold.proofs.early.drawn.Goals as goal

pub bound-requires : goal.bound-requires
bound-requires c =
    let p : length c.in-Some.state.now ≡ c.args.table.now.vars = sized_at _ _ c.args.table.now.sized deref_pair _ _ _ _ _ _ c.into_iter-state-iterator.ensures.into_iter_gives.0 c.loop-state.yielded_by c.in-Some.is c.next.ensures.steps in
    reads_at (expression_of c.args.e.now) _ _ (ap length c.values.ensures ∙ p) c.requires
