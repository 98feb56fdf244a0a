use Rattle.std.proofs.Common.{◌∙◌, refl, sym}
use Rattle.table_flow.specs.Counts.{all_kept, none_stopped}
use Rattle.mass_fold.proofs.Doings.{doing_along, doing_go}
use Rattle.mass_fold.proofs.Sizes.{sized_at}
use Rattle.mass_fold.proofs.steps.merge.Goals as goal

pub loop-s-preserved : goal.loop-s-preserved
loop-s-preserved c = record {
  next = tt;
  finite = tt;
  vars = c.put.ensures.vars ∙ c.loop-s.invariant.vars;
  so_far = λ E. doing_go all_kept none_stopped c.args.into.now.states.entries c.args.table.states.entries E c.loop-s.into.states.entries E c.in-Some.s c.in-Some.f c.next.new.self
      (doing_along _ _ _ _ _ _ _ _ _ c.in-Some.ensures.steps (c.loop-s.invariant.so_far E)) c.put.new.self.states.entries c.in-Some.s c.in_ok-put.ensures.ok (λ G. refl) (λ G. refl);
}

pub put-requires : goal.put-requires
put-requires c = sized_at _ _ c.args.table.sized (λ e. e) _ _ _ _ _ _ c.into_iter-s-iterator.ensures.into_iter_gives.0 c.loop-s.yielded_by c.in-Some.is c.next.ensures.steps ∙ c.requires ∙ sym c.loop-s.invariant.vars
