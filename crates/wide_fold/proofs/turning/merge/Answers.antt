use Rattle.std.proofs.Common.{◌∙◌, refl, sym}
use Rattle.table_flow.specs.Counts.{all_kept, none_stopped}
use Rattle.mass_fold.proofs.Doings.{doing_along, doing_go}
use Rattle.mass_fold.proofs.Sizes.{sized_at}
use Rattle.wide_fold.proofs.turning.merge.Goals as goal

pub loop-state-preserved : goal.loop-state-preserved
loop-state-preserved c = record {
  next = tt;
  finite = tt;
  vars = c.put.ensures.vars ∙ c.loop-state.invariant.vars;
  so_far = λ E. doing_go all_kept none_stopped c.args.into.now.states.entries c.args.table.states.entries E c.loop-state.into.states.entries E c.in-Some.state c.in-Some.weight c.next.new.self
      (doing_along _ _ _ _ _ _ _ _ _ c.in-Some.ensures.steps (c.loop-state.invariant.so_far E)) c.put.new.self.states.entries c.in-Some.state c.in_ok-put.ensures.ok (λ G. refl) (λ G. refl);
}

pub put-requires : goal.put-requires
put-requires c = sized_at _ _ c.args.table.sized (λ e. e) _ _ _ _ _ _ c.into_iter-state-iterator.ensures.into_iter_gives.0 c.loop-state.yielded_by c.in-Some.is c.next.ensures.steps ∙ c.requires ∙ sym c.loop-state.invariant.vars
