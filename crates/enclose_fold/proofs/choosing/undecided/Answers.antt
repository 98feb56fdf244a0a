use Rattle.std.proofs.Common.{◌*◌, arith, ap}
use Rattle.gcl_core.specs.declared.answers.Limit.TheVariants.{Attempts}
use Rattle.gcl_core.specs.meaning.Blocks.{limit}
use Rattle.units_law.specs.Units.{total}
use Rattle.enclose_fold.proofs.EachEntry.{undecided, each_rest}
use Rattle.enclose_fold.proofs.Passing.{stop_start, stop_along, stop_go, stop_room, stop_all, one_ended}
use Rattle.enclose_fold.proofs.Within.{rest_within}
use Rattle.enclose_fold.proofs.choosing.undecided.Goals as goal

pub loop-w-init : goal.loop-w-init
loop-w-init c =
    let o = c.args.odds in
    let p = c.into_iter-w-iterator.ensures.into_iter_gives.0 in
    record {
      next = tt;
      finite = tt;
      left = let e = ap total p in omega arith;
      stopped = stop_start (undecided o.bound o.attempts) (each_rest o.bound o.attempts) c.args.table.now.states.entries c.args.ended.now _ p;
    }

pub add_attempts-requires : goal.add_attempts-requires
add_attempts-requires c =
    let o = c.args.odds in
    let es = c.args.table.now.states.entries in
    let stop = undecided o.bound o.attempts in
    let a = stop_room stop (each_rest o.bound o.attempts) es c.args.ended.now _ c.in-Some.field-0-0.now c.in-Some.w.now c.next.new.self
    (stop_along stop (each_rest o.bound o.attempts) es c.args.ended.now _ _ _ c.in-Some.ensures.steps c.loop-w.invariant.stopped) in
    let b = rest_within o.attempts es (omega (arith, c.requires)) o.bound (omega (arith, o.least)) in
    let r = c.least_rest.ensures in
    omega (arith, c.requires, a, b, r)

pub loop-w-preserved : goal.loop-w-preserved
loop-w-preserved c =
    let o = c.args.odds in
    let es = c.args.table.now.states.entries in
    let stop = undecided o.bound o.attempts in
    record {
      next = tt;
      finite = tt;
      left = let e = ap total c.in-Some.ensures.steps in let l = c.loop-w.invariant.left in omega arith;
      stopped = stop_go stop (each_rest o.bound o.attempts) es c.args.ended.now _ c.in-Some.field-0-0.now c.in-Some.w.now c.next.new.self
          (stop_along stop (each_rest o.bound o.attempts) es c.args.ended.now _ _ _ c.in-Some.ensures.steps c.loop-w.invariant.stopped) _
          (λ G. one_ended c.loop-w.ended _ _ c.least_rest.result c.add_attempts.ensures G _ (let r = ap (λ t. t * G (limit Attempts)) c.least_rest.ensures in omega arith));
    }

pub returns : goal.returns
returns c =
    let o = c.args.odds in
    let es = c.args.table.now.states.entries in
    let stop = undecided o.bound o.attempts in
    stop_all stop (each_rest o.bound o.attempts) es c.args.ended.now _
    (stop_along stop (each_rest o.bound o.attempts) es c.args.ended.now _ _ _ c.in-None.ensures.steps.0 c.loop-w.invariant.stopped)
