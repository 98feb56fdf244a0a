use Rattle.std.proofs.Common.{refl, inr, sym, ◌∙◌, subst}
use Rattle.zar_io.specs.Bits.{Took}
use Rattle.zar_io.specs.FileBits.{low_bits}
use Rattle.sampler_code.specs.Machine.{act}
use Rattle.sampler_run.specs.declared.machine.Pace.TheVariants as pace
use Rattle.sampler_run.specs.Views.{machine_of}
use Rattle.sampler_run.specs.inner.Taken.{LedBy}
use Rattle.sampler_run.proofs.Words.{moved_takes, moved_to}
use Rattle.sampler_run.proofs.stepping.move_by_flip.Goals as goal

pub returns-in-None-clause-moved : goal.returns-in-None-clause-moved
returns-in-None-clause-moved c =
    let code = c.args.code.now.instrs in
    let l = c.args.limits.now in
    let m = machine_of c.args.m.now in
    let j = c.args.left.now in
    let k = c.take_bit.new.left in
    let took = subst (λ o. Took o (low_bits j c.args.word) (low_bits k c.args.word)) c.in-None.is c.take_bit.ensures in
    let led = subst (λ o. LedBy (act l o m) m m pace.NeedBit (low_bits j c.args.word) (low_bits k c.args.word)) (sym c.requires.at) (tt, refl, took.0, took.1 ∙ sym took.0) in
    record {
      takes = moved_takes code l c.args.m.now c.args.m.now c.args.word j k pace.NeedBit c.requires.can.answered led;
      moved = moved_to code l c.args.m.now c.args.m.now c.args.word j k pace.NeedBit c.requires.can.answered led;
      shape = record { turns = refl; vars = refl; stack = refl };
    }

pub returns-in-Some-clause-moved : goal.returns-in-Some-clause-moved
returns-in-Some-clause-moved c =
    let code = c.args.code.now.instrs in
    let l = c.args.limits.now in
    let m = machine_of c.args.m.now in
    let n = c.flip.new.m in
    let j = c.args.left.now in
    let k = c.take_bit.new.left in
    let took = subst (λ o. Took o (low_bits j c.args.word) (low_bits k c.args.word)) c.in-Some.is c.take_bit.ensures in
    let led = subst (λ o. LedBy (act l o m) m (machine_of n) pace.On (low_bits j c.args.word) (low_bits k c.args.word)) (sym c.requires.at) (inr (c.in-Some.bit, tt, c.flip.ensures.side l, took)) in
    record {
      takes = moved_takes code l c.args.m.now n c.args.word j k pace.On c.requires.can.answered led;
      moved = moved_to code l c.args.m.now n c.args.word j k pace.On c.requires.can.answered led;
      shape = c.flip.ensures.shape;
    }
