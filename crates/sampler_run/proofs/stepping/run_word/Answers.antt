use Rattle.std.proofs.Common.{◌≡◌, ◌+◌, ◌^◌, ◌<◌, ◌≤◌, Some, refl, sym, subst, length, arith}
use Rattle.std.specs.Prelude.{slice_get}
use Rattle.sampler_code.specs.Views.{instruction_of}
use Rattle.sampler_run.specs.inner.Ran.{MovedTo}
use Rattle.zar_io.specs.FileBits.{low_bits}
use Rattle.sampler_code.specs.Depths.{greatest_depth}
use Rattle.sampler_code.specs.Sound.{Sound}
use Rattle.sampler_run.specs.Views.{machine_of}
use Rattle.sampler_run.proofs.Settle.{within}
use Rattle.sampler_run.proofs.Shapes.{own_shape, shape_join}
use Rattle.sampler_run.proofs.Takes.{takes_none, takes_join}
use Rattle.sampler_run.proofs.Words.{fewer_left, taken_answered}
use Rattle.sampler_run.proofs.stepping.run_word.Goals as goal

pub loop-outcome-init : goal.loop-outcome-init
loop-outcome-init c = record {
  shape = own_shape _;
  here = refl;
  at = c.at-i.ensures.instruction;
  within = c.at-i.ensures.within;
  answered = c.requires.answered;
  takes = takes_none _ _ _ (λ v. refl);
}

pub at-i-requires : goal.at-i-requires
at-i-requires c = within c.args.code.now.instrs c.args.limits.now (machine_of c.args.m.now) c.requires.answered

pub at-i-requires-in-loop-outcome : goal.at-i-requires-in-loop-outcome
at-i-requires-in-loop-outcome c =
    let code = c.args.code.now.instrs in
    let n = machine_of c.move_on-pace.new.m in
    let e = c.move_on-pace.ensures in
    subst (λ k. k < length code) (sym e.next)
    (within code c.args.limits.now n (taken_answered code c.args.limits.now (machine_of c.loop-outcome.m) n _ _ c.loop-outcome.invariant.answered e.moved.takes))

pub move_on-pace-requires-clause-at : goal.move_on-pace-requires-clause-at
move_on-pace-requires-clause-at c = c.loop-outcome.invariant.at

pub move_on-pace-requires-clause-within : goal.move_on-pace-requires-clause-within
move_on-pace-requires-clause-within c = c.loop-outcome.invariant.within

pub move_on-pace-requires-clause-can : goal.move_on-pace-requires-clause-can
move_on-pace-requires-clause-can c =
    let code = c.args.code.now.instrs in
    let m = c.loop-outcome.m in
    let i = c.loop-outcome.invariant in
    let f = fewer_left _ _ c.args.left c.loop-outcome.rest c.args.word i.takes in
    let b = c.requires.bits in
    record {
      room = subst (λ n. greatest_depth code ≤ n) (sym i.shape.stack) c.requires.room;
      sound = subst (λ n. Sound code n (length m.vars.items)) (sym i.shape.turns) (subst (λ n. Sound code (length c.args.m.now.turns.items) n) (sym i.shape.vars) c.requires.sound);
      answered = i.answered;
      bits = omega (arith, f, b);
    }

pub loop-outcome-smaller : goal.loop-outcome-smaller
loop-outcome-smaller c =
    subst (λ p. MovedTo c.args.code.now.instrs c.args.limits.now c.loop-outcome.m c.move_on-pace.new.m c.loop-outcome.rest c.move_on-pace.new.left p) c.in-On.is c.move_on-pace.ensures.moved.moved

pub loop-outcome-preserved : goal.loop-outcome-preserved
loop-outcome-preserved c =
    let i = c.loop-outcome.invariant in
    let e = c.move_on-pace.ensures.moved in
    let next = c.move_on-pace.ensures.next in
    record {
      shape = shape_join _ _ _ i.shape e.shape;
      here = next;
      at = subst (λ k. slice_get c.args.code.now.instrs k ≡ Some (instruction_of c.at-i-in-loop-outcome.result.now)) next c.at-i-in-loop-outcome.ensures.instruction;
      within = subst (λ k. k + 1 < 2 ^ 64) next c.at-i-in-loop-outcome.ensures.within;
      answered = taken_answered c.args.code.now.instrs c.args.limits.now (machine_of c.loop-outcome.m) (machine_of c.move_on-pace.new.m) _ _ i.answered e.takes;
      takes = takes_join _ _ _ _ _ _ i.takes e.takes;
    }

pub returns-in-NeedBit : goal.returns-in-NeedBit
returns-in-NeedBit c =
    let i = c.loop-outcome.invariant in
    let e = c.move_on-pace.ensures.moved in
    let moved = subst (λ p. MovedTo c.args.code.now.instrs c.args.limits.now c.loop-outcome.m c.move_on-pace.new.m c.loop-outcome.rest c.move_on-pace.new.left p) c.in-NeedBit.is e.moved in
    let t = takes_join _ _ _ (low_bits c.args.left c.args.word) (low_bits c.loop-outcome.rest c.args.word) (low_bits c.move_on-pace.new.left c.args.word) i.takes e.takes in
    record {
      takes = t;
      rests = moved.0;
      left = fewer_left _ _ c.args.left c.move_on-pace.new.left c.args.word t;
      used_up = λ h. moved.1;
      shape = shape_join _ _ _ i.shape e.shape;
    }

pub returns-in-Ended : goal.returns-in-Ended
returns-in-Ended c =
    let i = c.loop-outcome.invariant in
    let e = c.move_on-pace.ensures.moved in
    let t = takes_join _ _ _ (low_bits c.args.left c.args.word) (low_bits c.loop-outcome.rest c.args.word) (low_bits c.move_on-pace.new.left c.args.word) i.takes e.takes in
    record {
      takes = t;
      rests = subst (λ p. MovedTo c.args.code.now.instrs c.args.limits.now c.loop-outcome.m c.move_on-pace.new.m c.loop-outcome.rest c.move_on-pace.new.left p) c.in-Ended.is e.moved;
      left = fewer_left _ _ c.args.left c.move_on-pace.new.left c.args.word t;
      used_up = λ h. absurd (cc);
      shape = shape_join _ _ _ i.shape e.shape;
    }
