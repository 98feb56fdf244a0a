use Rattle.std.proofs.Common.{rules, ◌≡◌, Some, refl, ap, sym, subst, length, arith}
use Rattle.std.specs.Prelude.{slice_get}
use Rattle.zar_io.specs.FileBits.{low_bits}
use Rattle.formula.specs.ReadBack.{expression_in}
use Rattle.sampler_code.proofs.GreatestDepth.{within_greatest}
use Rattle.sampler_code.specs.Instruction.{Range}
use Rattle.sampler_code.specs.Machine.{Machine, ends, goes, first_attempt, step}
use Rattle.sampler_code.specs.inner.Bounded.{rest_of}
use Rattle.sampler_run.specs.Views.{drawing_of, machine_of}
use Rattle.sampler_run.specs.inner.Taken.{Takes}
use Rattle.sampler_run.specs.inner.Tried.{HasBegun}
use Rattle.sampler_run.proofs.Draws.{can_same, idle_ends, idle_begins, begun_pending}
use Rattle.sampler_run.proofs.Takes.{takes_none}
use Rattle.sampler_run.proofs.word_draws.draw.Goals as goal

pub bound_for-requires-clause-reads : goal.bound_for-requires-clause-reads
bound_for-requires-clause-reads c = (c.requires.can.sound.each c.args.m.now.index _ c.requires.at).0.1

pub bound_for-requires-clause-room : goal.bound_for-requires-clause-room
bound_for-requires-clause-room c =
    let w = within_greatest c.args.code.now.instrs c.args.m.now.index _ c.requires.at in
    let r = c.requires.can.room in
    omega (arith, w, r)

pub draw_from-requires-clause-place : goal.draw_from-requires-clause-place
draw_from-requires-clause-place c =
    let room = (c.requires.can.sound.each c.args.m.now.index _ c.requires.at).0.0 in
    let same = ap (λ (n : Machine). length n.vars) c.bound_for.ensures.same in
    omega (arith, room, same)

pub draw_from-requires-in-Below-clause-place : goal.draw_from-requires-in-Below-clause-place
draw_from-requires-in-Below-clause-place c = (c.requires.can.sound.each c.args.m.now.index _ c.requires.at).0.0

pub returns-in-Ok-clause-moved : goal.returns-in-Ok-clause-moved
returns-in-Ok-clause-moved c =
    let code = c.args.code.now.instrs in
    let l = c.args.limits.now in
    let e = expression_in c.args.e.now in
    let m = machine_of c.args.m.now in
    let b = c.in-Ok.bound in
    let need = c.bits_for.result in
    let k = c.args.left.now in
    let same = c.bound_for.ensures.same in
    let small = c.in-Ok.ensures.small in
    let within = c.bits_for.ensures.within in
    let at = subst (λ (n : Machine). slice_get code n.index ≡ Some (Range c.args.x e)) (sym same) c.requires.at in
    let can = can_same code l c.args.m.now c.bound_for.new.m k same c.bound_for.ensures.stack c.requires.can in
    let begun = subst (λ (n : Machine). HasBegun code l n c.args.word k b (record { need = need; low = 0; tries = l.attempts; used = n.used; left = k })) (sym same)
    (idle_begins code l c.args.x e m c.requires.at (ap drawing_of c.in-Idle.is) c.args.word k b need c.requires.can.answered (c.in-Ok.ensures.bound (λ b. goes (first_attempt l m b))) (small.1, small.0) (omega (arith, within)) c.bits_for.ensures.value) in
    let moved = c.draw_from.ensures.moved code l e at can begun in
    search rules

pub returns-in-Below-clause-moved : goal.returns-in-Below-clause-moved
returns-in-Below-clause-moved c =
    let code = c.args.code.now.instrs in
    let l = c.args.limits.now in
    c.draw_from-in-Below.ensures.moved code l (expression_in c.args.e.now) c.requires.at c.requires.can
    (begun_pending code l c.args.m.now c.in-Below.attempt c.args.word c.args.left.now c.in-Below.is)

pub returns-in-Err-clause-moved : goal.returns-in-Err-clause-moved
returns-in-Err-clause-moved c =
    let code = c.args.code.now.instrs in
    let l = c.args.limits.now in
    let m = machine_of c.args.m.now in
    let o = c.in-Err.outcome in
    let bits = low_bits c.args.left.now c.args.word in
    let same = c.bound_for.ensures.same in
    record {
      takes = subst (λ n. Takes (rest_of code l m) (rest_of code l n) bits bits) (sym same) (takes_none _ _ _ (λ v. refl));
      moved = subst (λ n. step code l n ≡ ends o) (sym same) (idle_ends code l c.args.x (expression_in c.args.e.now) m c.requires.at (ap drawing_of c.in-Idle.is) o (c.in-Err.ensures.none (λ b. goes (first_attempt l m b))));
      shape = record { turns = ap (λ (n : Machine). length n.turns) same; vars = ap (λ (n : Machine). length n.vars) same; stack = c.bound_for.ensures.stack };
    }
