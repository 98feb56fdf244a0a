use Rattle.std.specs.Map.Iter.{deref_pair}
use Rattle.gcl_core.specs.meaning.Views.{expression_of}
use Rattle.mass_fold.proofs.Moves.{reads_at}
use Rattle.mass_fold.proofs.Sizes.{sized_at}
use Rattle.mass_fold.proofs.Results.{results_end, results_next}
use Rattle.wide_masses.proofs.outcomes.add_results.Goals as goal

pub outcome-requires : goal.outcome-requires
outcome-requires c = reads_at (expression_of c.args.e.now) _ _ (sized_at _ _ c.args.table.now.sized deref_pair _ _ _ _ _ _ c.into_iter-s-iterator.ensures.into_iter_gives.0 c.loop-s.yielded_by c.in-Some.is c.next.ensures.steps) c.requires

pub loop-s-preserved : goal.loop-s-preserved
loop-s-preserved c =
    let r = expression_of c.args.e.now in record {
      next = tt;
      finite = tt;
      so_far = results_next r _ _ _ _ c.in-Some.s.now c.in-Some.f.now _ c.in-Some.ensures.steps c.loop-s.invariant.so_far c.outcome.result c.outcome.ensures _ c.in_ok-add.ensures;
    }

pub returns : goal.returns
returns c = results_end (expression_of c.args.e.now) _ _ _ _ c.in-None.ensures.steps.0 c.loop-s.invariant.so_far
