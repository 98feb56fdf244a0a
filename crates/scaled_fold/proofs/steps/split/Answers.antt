use Rattle.std.proofs.Common.{◌≡◌, length, sym, ap, ◌∙◌}
use Rattle.gcl_core.specs.meaning.Views.{expression_of}
use Rattle.mass_fold.proofs.Moves.{reads_at}
use Rattle.scaled_fold.proofs.Sizes.{sized_at}
use Rattle.scaled_fold.proofs.steps.split.Goals as goal

pub eval-requires : goal.eval-requires
eval-requires c =
    let p : length c.in-Some.s ≡ c.args.table.vars = sized_at _ _ c.args.table.sized (λ e. e) _ _ _ _ _ _ c.into_iter-s-iterator.ensures.into_iter_gives.0 c.loop-s.yielded_by c.in-Some.is c.next.ensures.steps in
    reads_at (expression_of c.args.e.now) _ _ (ap length c.values.ensures ∙ p) c.requires.reads

pub put-requires : goal.put-requires
put-requires c = record { sized = sized_at _ _ c.args.table.sized (λ e. e) _ _ _ _ _ _ c.into_iter-s-iterator.ensures.into_iter_gives.0 c.loop-s.yielded_by c.in-Some.is c.next.ensures.steps ∙ sym c.loop-s.invariant.second_vars }

pub put-requires-else-v-eq0 : goal.put-requires-else-v-eq0
put-requires-else-v-eq0 c = record { sized = sized_at _ _ c.args.table.sized (λ e. e) _ _ _ _ _ _ c.into_iter-s-iterator.ensures.into_iter_gives.0 c.loop-s.yielded_by c.in-Some.is c.next.ensures.steps ∙ sym c.loop-s.invariant.first_vars }
