use Rattle.std.proofs.Common.{◌≡◌, Err, arith}
use Rattle.std.specs.Map.Iter.{deref_pair}
use Rattle.gcl_core.specs.meaning.Views.{expression_of}
use Rattle.mass_fold.proofs.Moves.{reads_at}
use Rattle.mass_fold.proofs.Sizes.{sized_at}
use Rattle.mass_fold.proofs.Results.{results_end, results_next, results_blame}
use Rattle.mass_fold.proofs.outcomes.add_results.Goals as goal

pub outcome-requires : goal.outcome-requires
outcome-requires c = reads_at (expression_of c.args.e.now) _ _ (sized_at _ _ c.args.table.now.sized deref_pair _ _ _ _ _ _ c.into_iter-s-iterator.ensures.into_iter_gives.0 c.loop-s.yielded_by c.in-Some.is c.next.ensures.steps) c.requires

pub loop-s-preserved : goal.loop-s-preserved
loop-s-preserved c =
    let r = expression_of c.args.e.now in record {
      next = tt;
      finite = tt;
      so_far = results_next r _ _ _ _ c.in-Some.s.now c.in-Some.f.now _ c.in-Some.ensures.steps c.loop-s.invariant.so_far c.outcome.result c.outcome.ensures _ c.in_ok-add.ensures.ok;
    }

pub returns-in_err-add-clause-cause : goal.returns-in_err-add-clause-cause
returns-in_err-add-clause-cause c =
    let r = expression_of c.args.e.now in
    let out : c.from_residual.result ≡ Err c.in_err-add.field-0.0 = grind arith in
    rw out (results_blame r _ _ _ _ c.in-Some.s.now c.in-Some.f.now _ c.in-Some.ensures.steps c.loop-s.invariant.so_far c.outcome.result c.outcome.ensures _ c.in_err-add.ensures.cause)

pub returns-clause-ok : goal.returns-clause-ok
returns-clause-ok c = results_end (expression_of c.args.e.now) _ _ _ _ c.in-None.ensures.steps.0 c.loop-s.invariant.so_far
