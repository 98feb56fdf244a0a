use Rattle.std.proofs.Common.{◌<◌, ◌∙◌, length, refl, sym, ap, arith, ◌≡◌, Err}
use Rattle.std.specs.Map.Iter.{deref_pair}
use Rattle.table_flow.specs.Counts.{all_kept, none_stopped}
use Rattle.mass_fold.proofs.Sizes.{sized_at}
use Rattle.mass_fold.specs.declared.error.MassError.TheVariants.{TooWide}
use Rattle.mass_fold.proofs.Drawings.{drawing_start, drawing_along, drawing_turn, drawing_blame, added_put, stopped_none, blamed_put, blamed_part}
use Rattle.mass_fold.proofs.Fits.{fits, none_where_wide, is_wide}
use Rattle.mass_fold.proofs.draws.scale.Goals as goal

pub loop-s-init : goal.loop-s-init
loop-s-init c =
    let p = c.into_iter-s-iterator.ensures.into_iter_gives.0 in
    record {
      next = tt;
      finite = tt;
      vars = c.new-next.ensures.vars;
      so_far = λ E. drawing_start (λ s. c.args.w.now) (λ s. c.args.w.now) all_kept none_stopped c.args.table.now.states.entries E _ _ c.new-next.ensures.empty p;
    }

pub loop-s-preserved : goal.loop-s-preserved
loop-s-preserved c =
    let w = c.args.w.now in
    let wp : 0 < w.1 = omega (arith, c.is_lowest.ensures.positive) in
    record {
      next = tt;
      finite = tt;
      vars = c.put.ensures.vars ∙ c.loop-s.invariant.vars;
      so_far = λ E. drawing_turn (λ s. w) (λ s. w) all_kept none_stopped c.args.table.now.states.entries E c.loop-s.next.states.entries E c.in-Some.s.now c.in-Some.f.now c.next.new.self
          (drawing_along (λ s. w) (λ s. w) all_kept none_stopped c.args.table.now.states.entries E _ E _ _ c.in-Some.ensures.steps (c.loop-s.invariant.so_far E))
          c.put.new.self.states.entries E
          (added_put w w c.loop-s.next.states.entries c.put.new.self.states.entries c.in-Some.f.now c.in_ok-h.h c.in-Some.s.now c.in_ok-copy.field-0 wp refl c.requires (fits _ _ _ c.mul.ensures c.in_ok-h.ensures.value) c.in_ok-copy.ensures c.in_ok-put.ensures.ok)
          (stopped_none w E c.in-Some.f.now);
    }

pub put-requires : goal.put-requires
put-requires c = ap length c.in_ok-copy.ensures ∙ sized_at _ _ c.args.table.now.sized deref_pair _ _ _ _ _ _ c.into_iter-s-iterator.ensures.into_iter_gives.0 c.loop-s.yielded_by c.in-Some.is c.next.ensures.steps ∙ sym c.loop-s.invariant.vars

pub returns-clause-ok : goal.returns-clause-ok
returns-clause-ok c = λ E. drawing_along (λ s. c.args.w.now) (λ s. c.args.w.now) all_kept none_stopped c.args.table.now.states.entries E _ E _ _ c.in-None.ensures.steps.0 (c.loop-s.invariant.so_far E)

pub returns-in_err-h-clause-cause : goal.returns-in_err-h-clause-cause
returns-in_err-h-clause-cause c =
    let w = c.args.w.now in
    let wp : 0 < w.1 = omega (arith, c.is_lowest.ensures.positive) in
    let out : c.from_residual.result ≡ Err TooWide = grind (arith, is_wide _ _ c.in_err-h.ensures.value) in
    rw out (λ E. drawing_blame (λ s. w) (λ s. w) all_kept none_stopped c.args.table.now.states.entries E c.loop-s.next.states.entries E c.in-Some.s.now c.in-Some.f.now c.next.new.self
    (drawing_along (λ s. w) (λ s. w) all_kept none_stopped c.args.table.now.states.entries E _ E _ _ c.in-Some.ensures.steps (c.loop-s.invariant.so_far E)) TooWide
    (blamed_part w w w c.loop-s.next.states.entries E c.in-Some.f.now (λ G. G c.in-Some.s.now) (λ G. 0) wp refl (omega arith) (none_where_wide _ _ _ c.mul.ensures c.in_err-h.ensures.value)))

pub returns-in_err-put-clause-cause : goal.returns-in_err-put-clause-cause
returns-in_err-put-clause-cause c =
    let w = c.args.w.now in
    let wp : 0 < w.1 = omega (arith, c.is_lowest.ensures.positive) in
    let out : c.from_residual-in_err-put.result ≡ Err c.in_err-put.field-0.0 = grind arith in
    rw out (λ E. drawing_blame (λ s. w) (λ s. w) all_kept none_stopped c.args.table.now.states.entries E c.loop-s.next.states.entries E c.in-Some.s.now c.in-Some.f.now c.next.new.self
    (drawing_along (λ s. w) (λ s. w) all_kept none_stopped c.args.table.now.states.entries E _ E _ _ c.in-Some.ensures.steps (c.loop-s.invariant.so_far E)) _
    (blamed_put w w w c.loop-s.next.states.entries E c.in-Some.f.now c.in_ok-h.h c.in-Some.s.now c.in_ok-copy.field-0 (λ G. 0) _ wp refl c.requires (fits _ _ _ c.mul.ensures c.in_ok-h.ensures.value) c.in_ok-copy.ensures c.in_err-put.ensures.cause))
