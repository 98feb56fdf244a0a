use Rattle.std.proofs.Common.{◌≡◌, ◌∙◌, arith, [], length, sym, ap, Err}
use Rattle.std.specs.Map.Iter.{deref_pair}
use Rattle.units_law.specs.Down.{down}
use Rattle.units_law.specs.Rounding.{class_units}
use Rattle.units_law.specs.Units.{total}
use Rattle.enclose_fold.proofs.EachEntry.{each_class, class_one}
use Rattle.enclose_fold.proofs.Passing.{pass_start, pass_along, pass_go, pass_room, pass_all}
use Rattle.enclose_fold.proofs.Putting.{put_holds, put_short, put_fits}
use Rattle.enclose_fold.proofs.Sizes.{sized_at}
use Rattle.enclose_fold.proofs.Within.{class_within}
use Rattle.enclose_fold.proofs.choosing.side.Goals as goal

pub loop-s-init : goal.loop-s-init
loop-s-init c =
    let o = c.args.odds in
    let p = c.into_iter-s-iterator.ensures.into_iter_gives.0 in
    record {
      next = tt;
      finite = tt;
      vars = c.new-next.ensures.vars;
      left = let e = ap total p in omega arith;
      so_far = pass_start (class_units down o.bound o.attempts c.args.count) (each_class o.bound o.attempts c.args.count) [] c.args.table.now.states.entries _ _ c.new-next.ensures.empty p;
    }

pub put-requires-clause-sized : goal.put-requires-clause-sized
put-requires-clause-sized c = ap length c.in_ok-copy.ensures ∙ sized_at _ _ c.args.table.now.sized deref_pair _ _ _ _ _ _ c.into_iter-s-iterator.ensures.into_iter_gives.0 c.loop-s.yielded_by c.in-Some.is c.next.ensures.steps ∙ sym c.loop-s.invariant.vars

pub put-requires-clause-within : goal.put-requires-clause-within
put-requires-clause-within c =
    let o = c.args.odds in
    let es = c.args.table.now.states.entries in
    let step = class_units down o.bound o.attempts c.args.count in
    let a = pass_room step (each_class o.bound o.attempts c.args.count) [] es _ c.next.new.self c.in-Some.s.now c.in-Some.w.now
    (pass_along step (each_class o.bound o.attempts c.args.count) [] es _ _ _ c.in-Some.ensures.steps c.loop-s.invariant.so_far) in
    let b = class_within o.attempts es c.requires.within o.bound (omega (arith, o.least)) c.args.count c.requires.part in
    let r = c.least_share.ensures in
    omega (arith, c.requires.within, a, b, r)

pub loop-s-preserved : goal.loop-s-preserved
loop-s-preserved c =
    let o = c.args.odds in
    let es = c.args.table.now.states.entries in
    let step = class_units down o.bound o.attempts c.args.count in
    record {
      next = tt;
      finite = tt;
      vars = c.put.ensures.vars ∙ c.loop-s.invariant.vars;
      left = let e = ap total c.in-Some.ensures.steps in let l = c.loop-s.invariant.left in omega arith;
      so_far = pass_go step (each_class o.bound o.attempts c.args.count) [] es _ c.next.new.self c.in-Some.s.now c.in-Some.w.now
          (pass_along step (each_class o.bound o.attempts c.args.count) [] es _ _ _ c.in-Some.ensures.steps c.loop-s.invariant.so_far) _
          (λ G. put_holds c.loop-s.next.states.entries _ _ c.least_share.result c.in_ok-put.ensures.ok c.loop-s.next.once G _
          (class_one o.bound o.attempts c.args.count c.in-Some.s.now _ c.in-Some.w.now _ c.in_ok-copy.ensures c.least_share.ensures G))
          (put_short c.loop-s.next.states.entries _ _ c.least_share.result c.in_ok-put.ensures.ok);
    }

pub returns-clause-next : goal.returns-clause-next
returns-clause-next c =
    let o = c.args.odds in
    let es = c.args.table.now.states.entries in
    let step = class_units down o.bound o.attempts c.args.count in
    pass_all step (each_class o.bound o.attempts c.args.count) es _ c.loop-s.next.once
    (pass_along step (each_class o.bound o.attempts c.args.count) [] es _ _ _ c.in-None.ensures.steps.0 c.loop-s.invariant.so_far)

pub returns-in_err-put-clause-cause : goal.returns-in_err-put-clause-cause
returns-in_err-put-clause-cause c =
    let o = c.args.odds in
    let es = c.args.table.now.states.entries in
    let step = class_units down o.bound o.attempts c.args.count in
    let out : c.from_residual-in_err-put.result ≡ Err c.in_err-put.field-0.0 = grind arith in
    let h = pass_along step (each_class o.bound o.attempts c.args.count) [] es _ _ _ c.in-Some.ensures.steps c.loop-s.invariant.so_far in
    rw out (put_fits _ _ _ c.least_share.result (let f = h.few in omega (arith, c.args.table.now.few, f)) c.in_err-put.ensures.cause)
