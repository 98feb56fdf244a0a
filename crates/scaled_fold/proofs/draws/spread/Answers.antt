use Rattle.std.proofs.Common.{◌≡◌, ◌∙◌, pos, to_z, w64, arith}
use Rattle.std.proofs.lemmas.Int.{ints}
use Rattle.mass_fold.proofs.Drawings.{set_as}
use Rattle.scaled_fold.proofs.Drawing.{number_more}
use Rattle.scaled_fold.proofs.draws.spread.Goals as goal

pub loop-i-preserved : goal.loop-i-preserved
loop-i-preserved c =
    let a = c.args in
    let z : pos c.loop-i.i ≡ to_z w64 c.loop-i.i = omega (arith, ints) in
    let q = set_as a.s.now c.in_ok-t.t c.set.new.self a.x c.loop-i.i _ c.in_ok-t.ensures z c.set.ensures in
    record {
      vars = c.in_ok-next.ensures.vars ∙ c.loop-i.invariant.vars;
      so_far = number_more a.x c.loop-i.i a.s.now c.set.new.self a.w a.into.states.entries c.loop-i.next.states.entries _ q c.loop-i.invariant.so_far c.in_ok-next.ensures.ok;
    }
