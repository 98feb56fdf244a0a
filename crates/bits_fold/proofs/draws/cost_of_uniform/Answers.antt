use Rattle.std.proofs.Common.{◌≡◌, ◌∙◌, length, sym}
use Rattle.std.specs.Map.Iter.{deref_pair}
use Rattle.gcl_core.specs.meaning.Views.{expression_of}
use Rattle.gcl_core.specs.meaning.Value.{value_of}
use Rattle.mass_fold.proofs.Moves.{reads_at}
use Rattle.mass_fold.proofs.Sizes.{sized_at}
use Rattle.bits_fold.specs.Counted.{price_of}
use Rattle.bits_fold.proofs.DrawSums.{bound_of, sums_start, sums_next, bound_adds, bound_end}
use Rattle.bits_fold.proofs.draws.cost_of_uniform.Goals as goal

pub loop-s-init : goal.loop-s-init
loop-s-init c = record {
  next = tt;
  finite = tt;
  so_far = sums_start (bound_of (price_of c.args.what) (value_of (expression_of c.args.e.now))) c.args.table.now.states.entries _ c.of-sum.result c.into_iter-s-iterator.ensures.into_iter_gives.0 c.of-sum.ensures.equal c.of-sum.ensures.lowest.positive;
}

pub cost_of_state-requires : goal.cost_of_state-requires
cost_of_state-requires c =
    let p : length c.in-Some.s.now ≡ c.args.table.now.vars = sized_at _ _ c.args.table.now.sized deref_pair _ _ _ _ _ _ c.into_iter-s-iterator.ensures.into_iter_gives.0 c.loop-s.yielded_by c.in-Some.is c.next.ensures.steps in
    reads_at (expression_of c.args.e.now) _ _ p c.requires

pub loop-s-preserved : goal.loop-s-preserved
loop-s-preserved c =
    let v = value_of (expression_of c.args.e.now) in
    record {
      next = tt;
      finite = tt;
      so_far = sums_next (bound_of (price_of c.args.what) v) c.args.table.now.states.entries _ _ c.in-Some.s.now c.in-Some.f.now c.loop-s.sum c.in_ok-cost.cost c.in_ok-sum.sum c.in-Some.ensures.steps
          (bound_adds (price_of c.args.what) v c.in-Some.s.now c.in-Some.f.now c.cost_of_state.result c.in_ok-cost.cost c.cost_of_state.ensures.lowest.positive c.cost_of_state.ensures.equal (sym c.mul.ensures ∙ c.in_ok-cost.was))
          (sym c.add.ensures ∙ c.in_ok-sum.was) c.loop-s.invariant.so_far;
    }

pub returns : goal.returns
returns c = bound_end (price_of c.args.what) (value_of (expression_of c.args.e.now)) c.args.table.now.states.entries _ c.loop-s.sum c.in-None.ensures.steps.0 c.loop-s.invariant.so_far
