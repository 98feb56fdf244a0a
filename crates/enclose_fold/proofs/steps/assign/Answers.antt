use Rattle.std.proofs.Common.{◌≡◌, arith, slice_set, [], length, sym, ap, ◌∙◌, Err}
use Rattle.std.proofs.lemmas.Int.{to_z-of_z}
use Rattle.std.proofs.lemmas.List.{length-set}
use Rattle.gcl_core.specs.meaning.Views.{expression_of}
use Rattle.gcl_core.specs.meaning.Value.{value_of}
use Rattle.mass_fold.proofs.Moves.{reads_at}
use Rattle.units_law.specs.Units.{set_units, fault_units}
use Rattle.units_law.proofs.Losses.{set_total}
use Rattle.enclose_fold.proofs.EachEntry.{each_set, each_fault, set_ok, set_err, fault_ok, fault_err}
use Rattle.enclose_fold.proofs.Passing.{pass_start, pass_along, pass_go, pass_skip, pass_room, pass_all, stop_start, stop_along, stop_go, stop_skip, stop_room, stop_all, one_ended}
use Rattle.enclose_fold.proofs.Putting.{put_holds, put_short, put_fits}
use Rattle.enclose_fold.proofs.Sizes.{sized_at}
use Rattle.enclose_fold.proofs.steps.assign.Goals as goal

pub loop-s-init : goal.loop-s-init
loop-s-init c =
    let v = value_of (expression_of c.args.e.now) in
    let p = c.into_iter-s-iterator.ensures.into_iter_gives.0 in
    record {
      next = tt;
      finite = tt;
      vars = c.new-next.ensures.vars;
      so_far = pass_start (set_units c.args.x v) (each_set c.args.x v) [] c.args.table.states.entries _ _ c.new-next.ensures.empty p;
      stopped = stop_start (fault_units v) (each_fault v) c.args.table.states.entries c.args.ended.now _ p;
    }

pub eval-requires : goal.eval-requires
eval-requires c =
    let p : length c.in-Some.s ≡ c.args.table.vars = sized_at _ _ c.args.table.sized (λ e. e) _ _ _ _ _ _ c.into_iter-s-iterator.ensures.into_iter_gives.0 c.loop-s.yielded_by c.in-Some.is c.next.ensures.steps in
    reads_at (expression_of c.args.e.now) _ _ (ap length c.values.ensures ∙ p) c.requires.reads

pub set-requires : goal.set-requires
set-requires c =
    let p : length c.in-Some.s ≡ c.args.table.vars = sized_at _ _ c.args.table.sized (λ e. e) _ _ _ _ _ _ c.into_iter-s-iterator.ensures.into_iter_gives.0 c.loop-s.yielded_by c.in-Some.is c.next.ensures.steps in
    omega (arith, c.requires.place)

pub put-requires-clause-sized : goal.put-requires-clause-sized
put-requires-clause-sized c =
    let p : length c.in-Some.s ≡ c.args.table.vars = sized_at _ _ c.args.table.sized (λ e. e) _ _ _ _ _ _ c.into_iter-s-iterator.ensures.into_iter_gives.0 c.loop-s.yielded_by c.in-Some.is c.next.ensures.steps in
    ap length c.set.ensures ∙ length-set _ _ _ ∙ p ∙ sym c.loop-s.invariant.vars

pub put-requires-clause-within : goal.put-requires-clause-within
put-requires-clause-within c =
    let v = value_of (expression_of c.args.e.now) in
    let t : c.set.new.self ≡ slice_set c.in-Some.s c.args.x c.in-Ok.v = grind (arith, to_z-of_z, c.set.ensures) in
    let step = set_units c.args.x v in
    let es = c.args.table.states.entries in
    let a = pass_room step (each_set c.args.x v) [] es _ c.next.new.self c.in-Some.s c.in-Some.w
    (pass_along step (each_set c.args.x v) [] es _ _ _ c.in-Some.ensures.steps c.loop-s.invariant.so_far) in
    let b = set_ok v c.in-Some.s _ c.in-Some.w _ c.in-Ok.ensures c.values.ensures c.args.x _ t (λ s. 1) in
    let d = set_total c.args.x v es in
    omega (arith, c.requires.within, a, b, d)

pub add_fault-requires : goal.add_fault-requires
add_fault-requires c =
    let v = value_of (expression_of c.args.e.now) in
    let stop = fault_units v in
    let es = c.args.table.states.entries in
    let a = stop_room stop (each_fault v) es c.args.ended.now _ c.in-Some.s c.in-Some.w c.next.new.self
    (stop_along stop (each_fault v) es c.args.ended.now _ _ _ c.in-Some.ensures.steps c.loop-s.invariant.stopped) in
    let b = fault_err v c.in-Some.s _ c.in-Some.w _ c.in-Err.ensures c.values.ensures (λ x. 1) in
    let d = set_total c.args.x v es in
    omega (arith, c.requires.within, a, b, d)

pub returns-clause-next : goal.returns-clause-next
returns-clause-next c =
    let v = value_of (expression_of c.args.e.now) in
    let step = set_units c.args.x v in
    pass_all step (each_set c.args.x v) c.args.table.states.entries _ c.loop-s.next.once
    (pass_along step (each_set c.args.x v) [] c.args.table.states.entries _ _ _ c.in-None.ensures.steps.0 c.loop-s.invariant.so_far)

pub returns-clause-stopped : goal.returns-clause-stopped
returns-clause-stopped c =
    let v = value_of (expression_of c.args.e.now) in
    let stop = fault_units v in
    let es = c.args.table.states.entries in
    stop_all stop (each_fault v) es c.args.ended.now _
    (stop_along stop (each_fault v) es c.args.ended.now _ _ _ c.in-None.ensures.steps.0 c.loop-s.invariant.stopped)

pub returns-in_err-put-in-Ok-clause-cause : goal.returns-in_err-put-in-Ok-clause-cause
returns-in_err-put-in-Ok-clause-cause c =
    let out : c.from_residual.result ≡ Err c.in_err-put-in-Ok.field-0.0 = grind arith in
    let v = value_of (expression_of c.args.e.now) in
    let step = set_units c.args.x v in
    let h = pass_along step (each_set c.args.x v) [] c.args.table.states.entries _ _ _ c.in-Some.ensures.steps c.loop-s.invariant.so_far in
    rw out (put_fits _ _ _ c.in-Some.w (let f = h.few in omega (arith, c.args.table.few, f)) c.in_err-put-in-Ok.ensures.cause)

pub loop-s-preserved-in-Continue-1 : goal.loop-s-preserved-in-Continue-1
loop-s-preserved-in-Continue-1 c =
    let v = value_of (expression_of c.args.e.now) in
    let t : c.set.new.self ≡ slice_set c.in-Some.s c.args.x c.in-Ok.v = grind (arith, to_z-of_z, c.set.ensures) in
    let step = set_units c.args.x v in
    let stop = fault_units v in
    let es = c.args.table.states.entries in
    record {
      next = tt;
      finite = tt;
      vars = c.put.ensures.vars ∙ c.loop-s.invariant.vars;
      so_far = pass_go step (each_set c.args.x v) [] es _ c.next.new.self c.in-Some.s c.in-Some.w
          (pass_along step (each_set c.args.x v) [] es _ _ _ c.in-Some.ensures.steps c.loop-s.invariant.so_far) _
          (λ G. put_holds c.loop-s.next.states.entries _ _ c.in-Some.w c.in_ok-put-in-Ok.ensures.ok c.loop-s.next.once G _ (set_ok v c.in-Some.s _ c.in-Some.w _ c.in-Ok.ensures c.values.ensures c.args.x _ t G))
          (put_short c.loop-s.next.states.entries _ _ c.in-Some.w c.in_ok-put-in-Ok.ensures.ok);
      stopped = stop_skip stop (each_fault v) es c.args.ended.now _ c.in-Some.s c.in-Some.w c.next.new.self
          (stop_along stop (each_fault v) es c.args.ended.now _ _ _ c.in-Some.ensures.steps c.loop-s.invariant.stopped)
          (fault_ok v c.in-Some.s _ c.in-Some.w _ c.in-Ok.ensures c.values.ensures);
    }

pub loop-s-preserved : goal.loop-s-preserved
loop-s-preserved c =
    let v = value_of (expression_of c.args.e.now) in
    let step = set_units c.args.x v in
    let stop = fault_units v in
    let es = c.args.table.states.entries in
    record {
      next = tt;
      finite = tt;
      vars = c.loop-s.invariant.vars;
      so_far = pass_skip step (each_set c.args.x v) [] es _ c.next.new.self c.in-Some.s c.in-Some.w
          (pass_along step (each_set c.args.x v) [] es _ _ _ c.in-Some.ensures.steps c.loop-s.invariant.so_far)
          (set_err v c.in-Some.s _ c.in-Some.w _ c.in-Err.ensures c.values.ensures c.args.x);
      stopped = stop_go stop (each_fault v) es c.args.ended.now _ c.in-Some.s c.in-Some.w c.next.new.self
          (stop_along stop (each_fault v) es c.args.ended.now _ _ _ c.in-Some.ensures.steps c.loop-s.invariant.stopped) _
          (λ G. one_ended c.loop-s.ended _ _ c.in-Some.w c.add_fault.ensures G _ (fault_err v c.in-Some.s _ c.in-Some.w _ c.in-Err.ensures c.values.ensures G));
    }
