use Rattle.std.proofs.Common.{◌≡◌, length}
use Rattle.std.specs.Map.Iter.{deref_pair}
use Rattle.gcl_core.specs.meaning.Views.{expression_of}
use Rattle.gcl_core.specs.meaning.Value.{value_of}
use Rattle.mass_fold.specs.inner.Metering.{IsBoundPriced, bound_price}
use Rattle.mass_fold.proofs.Moves.{reads_at}
use Rattle.mass_fold.proofs.Meters.{rest_turn, rest_end}
use Rattle.mass_fold.proofs.Sizes.{sized_at}
use Rattle.mass_fold.proofs.meter.count_uniform.Goals as goal

pub count_bound-now-requires : goal.count_bound-now-requires
count_bound-now-requires c =
    let p : length c.in-Some.s.now ≡ c.args.table.now.vars = sized_at _ _ c.args.table.now.sized deref_pair _ _ _ _ _ _ c.into_iter-s-iterator.ensures.into_iter_gives.0 c.loop-s.yielded_by c.in-Some.is c.next.ensures.steps in
    reads_at (expression_of c.args.e.now) _ _ p c.requires

pub loop-s-preserved : goal.loop-s-preserved
loop-s-preserved c =
    let v = value_of (expression_of c.args.e.now) in
    record {
      next = tt;
      finite = tt;
      so_far = rest_turn (IsBoundPriced v c.args.attempts.most) (bound_price v c.args.attempts.most) c.args.table.now.states.entries c.args.meter c.loop-s.now c.count_bound-now.result _ _ c.in-Some.s.now c.in-Some.f.now c.in-Some.ensures.steps c.loop-s.invariant.so_far c.count_bound-now.ensures;
    }

pub returns : goal.returns
returns c =
    let v = value_of (expression_of c.args.e.now) in
    rest_end (IsBoundPriced v c.args.attempts.most) (bound_price v c.args.attempts.most) c.args.table.now.states.entries c.args.meter c.loop-s.now _ c.in-None.ensures.steps.0 c.loop-s.invariant.so_far
