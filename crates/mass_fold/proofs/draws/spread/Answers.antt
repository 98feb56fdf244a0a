use Rattle.std.proofs.Common.{◌≡◌, ◌∙◌, pos, to_z, w64, length, refl, sym, ap, subst, arith, Err}
use Rattle.std.proofs.lemmas.Int.{ints}
use Rattle.std.proofs.lemmas.List.{length-set}
use Rattle.mass_fold.specs.inner.Steps.{SpreadGives}
use Rattle.mass_fold.proofs.Drawings.{spread_none, spread_next, spread_blames, set_as}
use Rattle.mass_fold.proofs.draws.spread.Goals as goal

pub loop-i-init : goal.loop-i-init
loop-i-init c = record { so_far = spread_none _ _ c.args.x c.args.s.now c.args.h refl; vars = refl }

pub put-requires : goal.put-requires
put-requires c = ap length c.set.ensures ∙ length-set _ _ _ ∙ ap length c.in_ok-t.ensures ∙ c.requires.sized ∙ sym c.loop-i.invariant.vars

pub returns-in_err-put-clause-cause : goal.returns-in_err-put-clause-cause
returns-in_err-put-clause-cause c =
    let z : pos c.loop-i.i ≡ to_z w64 c.loop-i.i = omega (arith, ints) in
    let out : c.from_residual-in_err-put.result ≡ Err c.in_err-put.field-0.0 = grind arith in
    rw out (spread_blames _ _ _ c.args.x c.loop-i.i c.args.bound c.args.s.now c.set.new.self c.args.h c.loop-i.invariant.so_far c.loop-i-test.true (set_as _ _ _ _ _ _ c.in_ok-t.ensures z c.set.ensures) c.in_err-put.ensures.cause)

pub loop-i-preserved : goal.loop-i-preserved
loop-i-preserved c =
    let z : pos c.loop-i.i ≡ to_z w64 c.loop-i.i = omega (arith, ints) in
    let q = set_as c.args.s.now c.in_ok-t.t c.set.new.self c.args.x c.loop-i.i _ c.in_ok-t.ensures z c.set.ensures in
    record {
      so_far = spread_next _ _ _ c.args.x c.loop-i.i c.args.s.now c.set.new.self c.args.h c.loop-i.invariant.so_far q c.in_ok-put.ensures.ok;
      vars = c.put.ensures.vars ∙ c.loop-i.invariant.vars;
    }

pub returns-clause-ok : goal.returns-clause-ok
returns-clause-ok c = let e : c.loop-i.i ≡ c.args.bound = omega arith in subst (λ n. SpreadGives c.args.next.now.states.entries c.loop-i.next.states.entries c.args.x n c.args.s.now c.args.h) e c.loop-i.invariant.so_far
