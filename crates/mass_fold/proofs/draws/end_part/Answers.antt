use Rattle.std.proofs.Common.{◌<◌, [], refl, arith, ◌≡◌, Err}
use Rattle.table_flow.specs.Counts.{none_kept, all_stopped}
use Rattle.mass_fold.specs.inner.Ended.{end_of}
use Rattle.mass_fold.specs.declared.error.MassError.TheVariants.{TooWide}
use Rattle.mass_fold.proofs.Drawings.{drawing_start, drawing_along, drawing_turn, drawing_blame, added_none, stopped_end, blamed_end, blamed_rest}
use Rattle.mass_fold.proofs.Fits.{fits, none_where_wide, is_wide}
use Rattle.mass_fold.proofs.draws.end_part.Goals as goal

pub loop-f-init : goal.loop-f-init
loop-f-init c =
    let p = c.into_iter-f-iterator.ensures.into_iter_gives.0 in
    record { next = tt; finite = tt; so_far = drawing_start (λ s. c.args.w.now) (λ s. c.args.w.now) none_kept (all_stopped (end_of c.args.x)) c.args.table.now.states.entries c.args.ended.now _ _ refl p }

pub loop-f-preserved : goal.loop-f-preserved
loop-f-preserved c =
    let w = c.args.w.now in
    let wp : 0 < w.1 = omega (arith, c.is_lowest.ensures.positive) in
    record {
      next = tt;
      finite = tt;
      so_far = drawing_turn (λ s. w) (λ s. w) none_kept (all_stopped (end_of c.args.x)) c.args.table.now.states.entries c.args.ended.now [] c.loop-f.ended c.in-Some.field-0-0.now c.in-Some.f.now c.next.new.self
          (drawing_along (λ s. w) (λ s. w) none_kept (all_stopped (end_of c.args.x)) c.args.table.now.states.entries c.args.ended.now _ _ _ _ c.in-Some.ensures.steps c.loop-f.invariant.so_far)
          [] c.add.new.self
          (added_none w [] c.in-Some.f.now)
          (stopped_end w w c.loop-f.ended c.add.new.self c.in-Some.f.now c.in_ok-h.h c.args.x wp refl (fits _ _ _ c.mul.ensures c.in_ok-h.ensures.value) c.in_ok-add.ensures.ok);
    }

pub returns-clause-ok : goal.returns-clause-ok
returns-clause-ok c = drawing_along (λ s. c.args.w.now) (λ s. c.args.w.now) none_kept (all_stopped (end_of c.args.x)) c.args.table.now.states.entries c.args.ended.now _ _ _ _ c.in-None.ensures.steps.0 c.loop-f.invariant.so_far

pub returns-in_err-h-clause-cause : goal.returns-in_err-h-clause-cause
returns-in_err-h-clause-cause c =
    let w = c.args.w.now in
    let wp : 0 < w.1 = omega (arith, c.is_lowest.ensures.positive) in
    let out : c.from_residual.result ≡ Err TooWide = grind (arith, is_wide _ _ c.in_err-h.ensures.value) in
    rw out (drawing_blame (λ s. w) (λ s. w) none_kept (all_stopped (end_of c.args.x)) c.args.table.now.states.entries c.args.ended.now [] c.loop-f.ended c.in-Some.field-0-0.now c.in-Some.f.now c.next.new.self
    (drawing_along (λ s. w) (λ s. w) none_kept (all_stopped (end_of c.args.x)) c.args.table.now.states.entries c.args.ended.now _ _ _ _ c.in-Some.ensures.steps c.loop-f.invariant.so_far) TooWide
    (blamed_rest w w w [] c.loop-f.ended c.in-Some.f.now (λ G. 0) c.args.x wp refl (none_where_wide _ _ _ c.mul.ensures c.in_err-h.ensures.value)))

pub returns-in_err-add-clause-cause : goal.returns-in_err-add-clause-cause
returns-in_err-add-clause-cause c =
    let w = c.args.w.now in
    let wp : 0 < w.1 = omega (arith, c.is_lowest.ensures.positive) in
    let out : c.from_residual-in_err-add.result ≡ Err c.in_err-add.field-0.0 = grind arith in
    rw out (drawing_blame (λ s. w) (λ s. w) none_kept (all_stopped (end_of c.args.x)) c.args.table.now.states.entries c.args.ended.now [] c.loop-f.ended c.in-Some.field-0-0.now c.in-Some.f.now c.next.new.self
    (drawing_along (λ s. w) (λ s. w) none_kept (all_stopped (end_of c.args.x)) c.args.table.now.states.entries c.args.ended.now _ _ _ _ c.in-Some.ensures.steps c.loop-f.invariant.so_far) _
    (blamed_end w w w [] c.loop-f.ended c.in-Some.f.now c.in_ok-h.h (λ G. 0) c.args.x _ wp refl (fits _ _ _ c.mul.ensures c.in_ok-h.ensures.value) c.in_err-add.ensures.cause))
