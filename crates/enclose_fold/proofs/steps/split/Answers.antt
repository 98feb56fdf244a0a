use Rattle.std.proofs.Common.{◌≡◌, arith, [], length, pos, of_z, w64, sym, ap, ◌∙◌, Err}
use Rattle.std.proofs.lemmas.Int.{to_z-of_z}
use Rattle.gcl_core.specs.meaning.Views.{expression_of}
use Rattle.gcl_core.specs.meaning.Value.{value_of}
use Rattle.mass_fold.proofs.Moves.{reads_at}
use Rattle.table_flow.specs.Tables.{holds, fails}
use Rattle.units_law.specs.Units.{only_units, fault_units}
use Rattle.units_law.proofs.Losses.{guard_total}
use Rattle.enclose_fold.proofs.EachEntry.{each_only, each_fault, zero_holds, zero_fails, not_holds, not_fails, err_holds, err_fails, fault_ok, fault_err}
use Rattle.enclose_fold.proofs.Passing.{pass_start, pass_along, pass_go, pass_skip, pass_room, pass_all, stop_start, stop_along, stop_go, stop_skip, stop_room, stop_all, one_ended}
use Rattle.enclose_fold.proofs.Putting.{put_holds, put_short, put_fits}
use Rattle.enclose_fold.proofs.Sizes.{sized_at}
use Rattle.enclose_fold.proofs.steps.split.Goals as goal

pub loop-s-init : goal.loop-s-init
loop-s-init c =
    let v = value_of (expression_of c.args.e.now) in
    let es = c.args.table.states.entries in
    let p = c.into_iter-s-iterator.ensures.into_iter_gives.0 in
    record {
      next = tt;
      finite = tt;
      first_vars = c.new-first.ensures.vars;
      second_vars = c.new-second.ensures.vars;
      first = pass_start (only_units (holds v)) (each_only (holds v)) [] es _ _ c.new-first.ensures.empty p;
      second = pass_start (only_units (fails v)) (each_only (fails v)) [] es _ _ c.new-second.ensures.empty p;
      stopped = stop_start (fault_units v) (each_fault v) es c.args.ended.now _ p;
    }

pub eval-requires : goal.eval-requires
eval-requires c =
    let p : length c.in-Some.s ≡ c.args.table.vars = sized_at _ _ c.args.table.sized (λ e. e) _ _ _ _ _ _ c.into_iter-s-iterator.ensures.into_iter_gives.0 c.loop-s.yielded_by c.in-Some.is c.next.ensures.steps in
    reads_at (expression_of c.args.e.now) _ _ (ap length c.values.ensures ∙ p) c.requires.reads

pub put-requires-clause-sized : goal.put-requires-clause-sized
put-requires-clause-sized c = sized_at _ _ c.args.table.sized (λ e. e) _ _ _ _ _ _ c.into_iter-s-iterator.ensures.into_iter_gives.0 c.loop-s.yielded_by c.in-Some.is c.next.ensures.steps ∙ sym c.loop-s.invariant.second_vars

pub put-requires-else-v-eq0-clause-sized : goal.put-requires-else-v-eq0-clause-sized
put-requires-else-v-eq0-clause-sized c = sized_at _ _ c.args.table.sized (λ e. e) _ _ _ _ _ _ c.into_iter-s-iterator.ensures.into_iter_gives.0 c.loop-s.yielded_by c.in-Some.is c.next.ensures.steps ∙ sym c.loop-s.invariant.first_vars

pub put-requires-clause-within : goal.put-requires-clause-within
put-requires-clause-within c =
    let v = value_of (expression_of c.args.e.now) in
    let es = c.args.table.states.entries in
    let z : c.in-Ok.v ≡ pos 0 = grind (arith, to_z-of_z, c.if-v-eq0.true) in
    let a = pass_room (only_units (fails v)) (each_only (fails v)) [] es _ c.next.new.self c.in-Some.s c.in-Some.w (pass_along (only_units (fails v)) (each_only (fails v)) [] es _ _ _ c.in-Some.ensures.steps c.loop-s.invariant.second) in
    let b = zero_fails v c.in-Some.s _ c.in-Some.w _ c.in-Ok.ensures c.values.ensures z (λ s. 1) in
    let d = guard_total v es in
    omega (arith, c.requires.within, a, b, d)

pub put-requires-else-v-eq0-clause-within : goal.put-requires-else-v-eq0-clause-within
put-requires-else-v-eq0-clause-within c =
    let v = value_of (expression_of c.args.e.now) in
    let es = c.args.table.states.entries in
    let z : ¬ (c.in-Ok.v ≡ pos 0) = λ e. c.if-v-eq0.false (ap (of_z w64) e) in
    let a = pass_room (only_units (holds v)) (each_only (holds v)) [] es _ c.next.new.self c.in-Some.s c.in-Some.w (pass_along (only_units (holds v)) (each_only (holds v)) [] es _ _ _ c.in-Some.ensures.steps c.loop-s.invariant.first) in
    let b = not_holds v c.in-Some.s _ c.in-Some.w _ c.in-Ok.ensures c.values.ensures z (λ s. 1) in
    let d = guard_total v es in
    omega (arith, c.requires.within, a, b, d)

pub add_fault-requires : goal.add_fault-requires
add_fault-requires c =
    let v = value_of (expression_of c.args.e.now) in
    let es = c.args.table.states.entries in
    let a = stop_room (fault_units v) (each_fault v) es c.args.ended.now _ c.in-Some.s c.in-Some.w c.next.new.self (stop_along (fault_units v) (each_fault v) es c.args.ended.now _ _ _ c.in-Some.ensures.steps c.loop-s.invariant.stopped) in
    let b = fault_err v c.in-Some.s _ c.in-Some.w _ c.in-Err.ensures c.values.ensures (λ x. 1) in
    let d = guard_total v es in
    omega (arith, c.requires.within, a, b, d)

pub loop-s-preserved-in-Continue-1 : goal.loop-s-preserved-in-Continue-1
loop-s-preserved-in-Continue-1 c =
    let v = value_of (expression_of c.args.e.now) in
    let es = c.args.table.states.entries in
    let z : c.in-Ok.v ≡ pos 0 = grind (arith, to_z-of_z, c.if-v-eq0.true) in
    record {
      next = tt;
      finite = tt;
      second_vars = c.put.ensures.vars ∙ c.loop-s.invariant.second_vars;
      first_vars = c.loop-s.invariant.first_vars;
      second = pass_go (only_units (fails v)) (each_only (fails v)) [] es _ c.next.new.self c.in-Some.s c.in-Some.w
          (pass_along (only_units (fails v)) (each_only (fails v)) [] es _ _ _ c.in-Some.ensures.steps c.loop-s.invariant.second) _
          (λ G. put_holds c.loop-s.second.states.entries _ _ c.in-Some.w c.in_ok-put-in-Ok.ensures.ok c.loop-s.second.once G _ (zero_fails v c.in-Some.s _ c.in-Some.w _ c.in-Ok.ensures c.values.ensures z G))
          (put_short c.loop-s.second.states.entries _ _ c.in-Some.w c.in_ok-put-in-Ok.ensures.ok);
      first = pass_skip (only_units (holds v)) (each_only (holds v)) [] es _ c.next.new.self c.in-Some.s c.in-Some.w
          (pass_along (only_units (holds v)) (each_only (holds v)) [] es _ _ _ c.in-Some.ensures.steps c.loop-s.invariant.first) (zero_holds v c.in-Some.s _ c.in-Some.w _ c.in-Ok.ensures c.values.ensures z);
      stopped = stop_skip (fault_units v) (each_fault v) es c.args.ended.now _ c.in-Some.s c.in-Some.w c.next.new.self
          (stop_along (fault_units v) (each_fault v) es c.args.ended.now _ _ _ c.in-Some.ensures.steps c.loop-s.invariant.stopped) (fault_ok v c.in-Some.s _ c.in-Some.w _ c.in-Ok.ensures c.values.ensures);
    }

pub loop-s-preserved-in-Continue-branch-2 : goal.loop-s-preserved-in-Continue-branch-2
loop-s-preserved-in-Continue-branch-2 c =
    let v = value_of (expression_of c.args.e.now) in
    let es = c.args.table.states.entries in
    let z : ¬ (c.in-Ok.v ≡ pos 0) = λ e. c.if-v-eq0.false (ap (of_z w64) e) in
    record {
      next = tt;
      finite = tt;
      first_vars = c.put-else-v-eq0.ensures.vars ∙ c.loop-s.invariant.first_vars;
      second_vars = c.loop-s.invariant.second_vars;
      first = pass_go (only_units (holds v)) (each_only (holds v)) [] es _ c.next.new.self c.in-Some.s c.in-Some.w
          (pass_along (only_units (holds v)) (each_only (holds v)) [] es _ _ _ c.in-Some.ensures.steps c.loop-s.invariant.first) _
          (λ G. put_holds c.loop-s.first.states.entries _ _ c.in-Some.w c.in_ok-put-in-Ok-2.ensures.ok c.loop-s.first.once G _ (not_holds v c.in-Some.s _ c.in-Some.w _ c.in-Ok.ensures c.values.ensures z G))
          (put_short c.loop-s.first.states.entries _ _ c.in-Some.w c.in_ok-put-in-Ok-2.ensures.ok);
      second = pass_skip (only_units (fails v)) (each_only (fails v)) [] es _ c.next.new.self c.in-Some.s c.in-Some.w
          (pass_along (only_units (fails v)) (each_only (fails v)) [] es _ _ _ c.in-Some.ensures.steps c.loop-s.invariant.second) (not_fails v c.in-Some.s _ c.in-Some.w _ c.in-Ok.ensures c.values.ensures z);
      stopped = stop_skip (fault_units v) (each_fault v) es c.args.ended.now _ c.in-Some.s c.in-Some.w c.next.new.self
          (stop_along (fault_units v) (each_fault v) es c.args.ended.now _ _ _ c.in-Some.ensures.steps c.loop-s.invariant.stopped) (fault_ok v c.in-Some.s _ c.in-Some.w _ c.in-Ok.ensures c.values.ensures);
    }

pub loop-s-preserved : goal.loop-s-preserved
loop-s-preserved c =
    let v = value_of (expression_of c.args.e.now) in
    let es = c.args.table.states.entries in
    record {
      next = tt;
      finite = tt;
      first_vars = c.loop-s.invariant.first_vars;
      second_vars = c.loop-s.invariant.second_vars;
      first = pass_skip (only_units (holds v)) (each_only (holds v)) [] es _ c.next.new.self c.in-Some.s c.in-Some.w
          (pass_along (only_units (holds v)) (each_only (holds v)) [] es _ _ _ c.in-Some.ensures.steps c.loop-s.invariant.first) (err_holds v c.in-Some.s _ c.in-Some.w _ c.in-Err.ensures c.values.ensures);
      second = pass_skip (only_units (fails v)) (each_only (fails v)) [] es _ c.next.new.self c.in-Some.s c.in-Some.w
          (pass_along (only_units (fails v)) (each_only (fails v)) [] es _ _ _ c.in-Some.ensures.steps c.loop-s.invariant.second) (err_fails v c.in-Some.s _ c.in-Some.w _ c.in-Err.ensures c.values.ensures);
      stopped = stop_go (fault_units v) (each_fault v) es c.args.ended.now _ c.in-Some.s c.in-Some.w c.next.new.self
          (stop_along (fault_units v) (each_fault v) es c.args.ended.now _ _ _ c.in-Some.ensures.steps c.loop-s.invariant.stopped) _
          (λ G. one_ended c.loop-s.ended _ _ c.in-Some.w c.add_fault.ensures G _ (fault_err v c.in-Some.s _ c.in-Some.w _ c.in-Err.ensures c.values.ensures G));
    }

pub returns-in_err-put-in-Ok-clause-cause : goal.returns-in_err-put-in-Ok-clause-cause
returns-in_err-put-in-Ok-clause-cause c =
    let v = value_of (expression_of c.args.e.now) in
    let es = c.args.table.states.entries in
    let out : c.from_residual.result ≡ Err c.in_err-put-in-Ok.field-0.0 = grind arith in
    let h = (pass_along (only_units (fails v)) (each_only (fails v)) [] es _ _ _ c.in-Some.ensures.steps c.loop-s.invariant.second) in
    rw out (put_fits _ _ _ c.in-Some.w (let f = h.few in omega (arith, c.args.table.few, f)) c.in_err-put-in-Ok.ensures.cause)

pub returns-in_err-put-in-Ok-2-clause-cause : goal.returns-in_err-put-in-Ok-2-clause-cause
returns-in_err-put-in-Ok-2-clause-cause c =
    let v = value_of (expression_of c.args.e.now) in
    let es = c.args.table.states.entries in
    let out : c.from_residual-in_err-put-in-Ok-2.result ≡ Err c.in_err-put-in-Ok-2.field-0.0 = grind arith in
    let h = (pass_along (only_units (holds v)) (each_only (holds v)) [] es _ _ _ c.in-Some.ensures.steps c.loop-s.invariant.first) in
    rw out (put_fits _ _ _ c.in-Some.w (let f = h.few in omega (arith, c.args.table.few, f)) c.in_err-put-in-Ok-2.ensures.cause)

pub returns-clause-first : goal.returns-clause-first
returns-clause-first c =
    let v = value_of (expression_of c.args.e.now) in
    let es = c.args.table.states.entries in
    pass_all (only_units (holds v)) (each_only (holds v)) es _ c.loop-s.first.once
    (pass_along (only_units (holds v)) (each_only (holds v)) [] es _ _ _ c.in-None.ensures.steps.0 c.loop-s.invariant.first)

pub returns-clause-second : goal.returns-clause-second
returns-clause-second c =
    let v = value_of (expression_of c.args.e.now) in
    let es = c.args.table.states.entries in
    pass_all (only_units (fails v)) (each_only (fails v)) es _ c.loop-s.second.once
    (pass_along (only_units (fails v)) (each_only (fails v)) [] es _ _ _ c.in-None.ensures.steps.0 c.loop-s.invariant.second)

pub returns-clause-stopped : goal.returns-clause-stopped
returns-clause-stopped c =
    let v = value_of (expression_of c.args.e.now) in
    let es = c.args.table.states.entries in
    stop_all (fault_units v) (each_fault v) es c.args.ended.now _
    (stop_along (fault_units v) (each_fault v) es c.args.ended.now _ _ _ c.in-None.ensures.steps.0 c.loop-s.invariant.stopped)
