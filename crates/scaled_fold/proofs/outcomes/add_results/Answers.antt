use Rattle.std.specs.Map.Iter.{deref_pair}
use Rattle.gcl_core.specs.meaning.Views.{expression_of}
use Rattle.mass_fold.proofs.Moves.{reads_at}
use Rattle.scaled_fold.proofs.Adding.{results_start, results_end, results_next}
use Rattle.scaled_fold.proofs.Sizes.{sized_at}
use Rattle.scaled_fold.proofs.outcomes.add_results.Goals as goal

pub loop-s-init : goal.loop-s-init
loop-s-init c = record { next = tt; finite = tt; so_far = results_start (expression_of c.args.e.now) _ _ _ c.into_iter-s-iterator.ensures.into_iter_gives.0 }

pub outcome-requires : goal.outcome-requires
outcome-requires c = reads_at (expression_of c.args.e.now) _ _ (sized_at _ _ c.args.table.now.sized deref_pair _ _ _ _ _ _ c.into_iter-s-iterator.ensures.into_iter_gives.0 c.loop-s.yielded_by c.in-Some.is c.next.ensures.steps) c.requires

pub loop-s-preserved : goal.loop-s-preserved
loop-s-preserved c = record {
  next = tt;
  finite = tt;
  so_far = results_next (expression_of c.args.e.now) _ _ _ _ c.loop-s.invariant.so_far c.in-Some.s.now c.in-Some.w.now _ c.in-Some.ensures.steps c.outcome.result c.outcome.ensures _ c.in_ok-units.ensures;
}

pub returns : goal.returns
returns c = results_end (expression_of c.args.e.now) _ _ _ _ c.loop-s.invariant.so_far c.in-None.ensures.steps.0
