use Rattle.std.proofs.Common.{◌≡◌, ◌∙◌, ◌++◌, pos, to_z, w64, length, refl, sym, ap, arith, Err}
use Rattle.std.proofs.lemmas.Int.{ints}
use Rattle.std.proofs.lemmas.List.{length-set}
use Rattle.mass_fold.proofs.Drawings.{set_as}
use Rattle.units_law.specs.Units.{held}
use Rattle.units_law.proofs.UnitWords.{below_units}
use Rattle.units_law.proofs.Held.{held_append}
use Rattle.enclose_fold.proofs.Putting.{put_holds, put_refused, is_merged}
use Rattle.enclose_fold.proofs.Spreading.{number_more, numbers_refused, numbers_room, numbers_none}
use Rattle.enclose_fold.proofs.draws.spread.Goals as goal

pub returns-then-h-eq0-clause-ok : goal.returns-then-h-eq0-clause-ok
returns-then-h-eq0-clause-ok c =
    let a = c.args in
    let bs = a.next.now.states.entries in
    is_merged bs (bs ++ below_units a.x a.bound a.s.now a.h) a.next.now.once
    (λ G. let n = numbers_none a.x a.bound a.s.now a.h c.if-h-eq0.true G in let p = held_append G bs (below_units a.x a.bound a.s.now a.h) in omega arith)

pub loop-i-init : goal.loop-i-init
loop-i-init c = record { vars = refl; so_far = λ G. omega arith }

pub put-requires-clause-sized : goal.put-requires-clause-sized
put-requires-clause-sized c = ap length c.set.ensures ∙ length-set _ _ _ ∙ ap length c.in_ok-t.ensures ∙ c.requires.sized ∙ sym c.loop-i.invariant.vars

pub put-requires-clause-within : goal.put-requires-clause-within
put-requires-clause-within c =
    let a = c.args in
    let r = numbers_room a.x c.loop-i.i a.bound a.s.now a.h a.next.now.states.entries c.loop-i.next.states.entries c.loop-i-test.true c.loop-i.invariant.so_far in
    omega (arith, c.requires.within, r)

pub returns-in_err-put-clause-cause : goal.returns-in_err-put-clause-cause
returns-in_err-put-clause-cause c =
    let a = c.args in
    let z : pos c.loop-i.i ≡ to_z w64 c.loop-i.i = omega (arith, ints) in
    let q = set_as a.s.now c.in_ok-t.t c.set.new.self a.x c.loop-i.i _ c.in_ok-t.ensures z c.set.ensures in
    let out : c.from_residual-in_err-put.result ≡ Err c.in_err-put.field-0.0 = grind arith in
    let fs = c.loop-i.next.states.entries in
    rw out (numbers_refused _ a.x c.loop-i.i a.bound a.s.now c.set.new.self a.h a.next.now.states.entries fs c.loop-i-test.true q c.loop-i.invariant.so_far
    (put_refused _ fs c.set.new.self a.h c.loop-i.next.once c.in_err-put.ensures.cause))

pub loop-i-preserved : goal.loop-i-preserved
loop-i-preserved c =
    let a = c.args in
    let z : pos c.loop-i.i ≡ to_z w64 c.loop-i.i = omega (arith, ints) in
    let q = set_as a.s.now c.in_ok-t.t c.set.new.self a.x c.loop-i.i _ c.in_ok-t.ensures z c.set.ensures in
    let fs = c.loop-i.next.states.entries in
    record {
      vars = c.put.ensures.vars ∙ c.loop-i.invariant.vars;
      so_far = number_more a.x c.loop-i.i a.s.now c.set.new.self a.h a.next.now.states.entries fs _ q c.loop-i.invariant.so_far
          (λ G. put_holds fs _ c.set.new.self a.h c.in_ok-put.ensures.ok c.loop-i.next.once G _ refl);
    }

pub returns-clause-ok : goal.returns-clause-ok
returns-clause-ok c =
    let a = c.args in
    let e : c.loop-i.i ≡ a.bound = omega arith in
    let bs = a.next.now.states.entries in
    is_merged c.loop-i.next.states.entries (bs ++ below_units a.x a.bound a.s.now a.h) c.loop-i.next.once
    (λ G. let i = c.loop-i.invariant.so_far G in let k = ap (λ n. held G (below_units a.x n a.s.now a.h)) e in let p = held_append G bs (below_units a.x a.bound a.s.now a.h) in omega arith)
