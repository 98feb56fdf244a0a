use Rattle.std.proofs.Common.{◌≡◌, ◌∙◌, true, false, not, cond, [], refl, sym, ap}
use Rattle.table_flow.specs.Counts.{kept_if, none_stopped}
use Rattle.mass_fold.proofs.Doings.{doing_start, doing_along, doing_go, doing_skip, doing_all}
use Rattle.mass_fold.proofs.Sizes.{sized_at}
use Rattle.exact_fold.specs.inner.Turning.{inside, outside}
use Rattle.exact_fold.proofs.turning.leaving.Goals as goal

pub loop-state-init : goal.loop-state-init
loop-state-init c = record {
  next = tt;
  finite = tt;
  vars = c.new-visits.ensures.vars;
  so_far = λ E. doing_start _ _ _ _ _ _ _ c.new-visits.ensures.empty c.into_iter-state-iterator.ensures.into_iter_gives.0;
}

pub put-requires : goal.put-requires
put-requires c = sized_at _ _ c.args.table.sized (λ e. e) _ _ _ _ _ _ c.into_iter-state-iterator.ensures.into_iter_gives.0 c.loop-state.yielded_by c.in-Some.is c.next.ensures.steps ∙ sym c.loop-state.invariant.vars

pub loop-state-preserved-in-Continue-1 : goal.loop-state-preserved-in-Continue-1
loop-state-preserved-in-Continue-1 c =
    let closed = c.args.closed.now.states.entries in
    let absent : inside closed c.in-Some.state ≡ false = sym c.stands.ensures ∙ c.if-not-stands.true in
    record {
      next = tt;
      finite = tt;
      vars = c.put.ensures.vars ∙ c.loop-state.invariant.vars;
      so_far = λ E. doing_go (kept_if (outside closed)) none_stopped [] c.args.table.states.entries E c.loop-state.visits.states.entries E c.in-Some.state c.in-Some.weight c.next.new.self
          (doing_along _ _ _ _ _ _ _ _ _ c.in-Some.ensures.steps (c.loop-state.invariant.so_far E)) c.put.new.self.states.entries c.in-Some.state c.in_ok-put.ensures.ok (λ G. ap (λ b. cond (not b) (G c.in-Some.state) 0) absent) (λ G. refl);
    }

pub loop-state-preserved : goal.loop-state-preserved
loop-state-preserved c =
    let closed = c.args.closed.now.states.entries in
    let standing : inside closed c.in-Some.state ≡ true = sym c.stands.ensures ∙ c.if-not-stands.false in
    record {
      next = tt;
      finite = tt;
      vars = c.loop-state.invariant.vars;
      so_far = λ E. doing_skip (kept_if (outside closed)) none_stopped [] c.args.table.states.entries E c.loop-state.visits.states.entries E c.in-Some.state c.in-Some.weight c.next.new.self
          (doing_along _ _ _ _ _ _ _ _ _ c.in-Some.ensures.steps (c.loop-state.invariant.so_far E)) (λ G. ap (λ b. cond (not b) (G c.in-Some.state) 0) standing) (λ G. refl);
    }

pub returns-clause-ok : goal.returns-clause-ok
returns-clause-ok c = λ E.
    doing_all (kept_if (outside c.args.closed.now.states.entries)) none_stopped [] c.args.table.states.entries E c.loop-state.visits.states.entries E
    (doing_along _ _ _ _ _ _ _ _ _ c.in-None.ensures.steps.0 (c.loop-state.invariant.so_far E))
