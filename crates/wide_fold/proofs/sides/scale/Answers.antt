use Rattle.std.proofs.Common.{◌∙◌, length, sym, ap, arith}
use Rattle.std.specs.Map.Iter.{deref_pair}
use Rattle.table_flow.specs.Counts.{all_kept, none_stopped}
use Rattle.mass_fold.proofs.Sizes.{sized_at}
use Rattle.mass_fold.proofs.Drawings.{drawing_start, drawing_along, drawing_turn, stopped_none}
use Rattle.wide_fold.proofs.Parted.{added_put}
use Rattle.wide_fold.proofs.sides.scale.Goals as goal

pub loop-state-init : goal.loop-state-init
loop-state-init c = record {
  next = tt;
  finite = tt;
  vars = c.new-next.ensures.vars;
  so_far = λ E. drawing_start (λ s. c.args.times.now) (λ s. c.args.times.now) all_kept none_stopped c.args.table.now.states.entries E _ _ c.new-next.ensures.empty c.into_iter-state-iterator.ensures.into_iter_gives.0;
}

pub loop-state-preserved : goal.loop-state-preserved
loop-state-preserved c =
    let w = c.args.times.now in
    let es = c.args.table.now.states.entries in
    record {
      next = tt;
      finite = tt;
      vars = c.put.ensures.vars ∙ c.loop-state.invariant.vars;
      so_far = λ E. drawing_turn (λ s. w) (λ s. w) all_kept none_stopped es E c.loop-state.next.states.entries E c.in-Some.state.now c.in-Some.weight.now c.next.new.self
          (drawing_along (λ s. w) (λ s. w) all_kept none_stopped es E _ E _ _ c.in-Some.ensures.steps (c.loop-state.invariant.so_far E))
          c.put.new.self.states.entries E
          (added_put w c.loop-state.next.states.entries c.put.new.self.states.entries c.in-Some.weight.now _ c.in-Some.state.now _ c.requires c.in_ok-part.ensures c.in_ok-copy.ensures c.in_ok-put.ensures.ok)
          (stopped_none w E c.in-Some.weight.now);
    }

pub put-requires : goal.put-requires
put-requires c = ap length c.in_ok-copy.ensures ∙ sized_at _ _ c.args.table.now.sized deref_pair _ _ _ _ _ _ c.into_iter-state-iterator.ensures.into_iter_gives.0 c.loop-state.yielded_by c.in-Some.is c.next.ensures.steps ∙ sym c.loop-state.invariant.vars

pub returns-clause-ok : goal.returns-clause-ok
returns-clause-ok c = λ E. drawing_along (λ s. c.args.times.now) (λ s. c.args.times.now) all_kept none_stopped c.args.table.now.states.entries E _ E _ _ c.in-None.ensures.steps.0 (c.loop-state.invariant.so_far E)
