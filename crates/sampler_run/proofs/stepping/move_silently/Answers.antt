use Rattle.std.proofs.Common.{sym, subst, arith}
use Rattle.zar_io.specs.FileBits.{low_bits}
use Rattle.sampler_code.proofs.GreatestDepth.{within_greatest}
use Rattle.sampler_code.specs.Machine.{act}
use Rattle.sampler_run.specs.Views.{machine_of}
use Rattle.sampler_run.specs.inner.Resting.{Led}
use Rattle.sampler_run.proofs.Words.{moved_takes, moved_to, silently}
use Rattle.sampler_run.proofs.stepping.move_silently.Goals as goal

pub perform-requires-clause-room : goal.perform-requires-clause-room
perform-requires-clause-room c =
    let w = within_greatest c.args.code.now.instrs c.args.m.now.index _ c.requires.at in
    let r = c.requires.can.room in
    omega (arith, w, r)

pub perform-requires-clause-knows : goal.perform-requires-clause-knows
perform-requires-clause-knows c = (c.requires.can.sound.each c.args.m.now.index _ c.requires.at).0

pub returns-clause-moved : goal.returns-clause-moved
returns-clause-moved c =
    let code = c.args.code.now.instrs in
    let l = c.args.limits.now in
    let e = c.perform.ensures in
    let m = machine_of c.args.m.now in
    let n = c.perform.new.m in
    let p = c.perform.result.0 in
    let k = c.args.left in
    let led = silently _ m (machine_of n) p (low_bits k c.args.word) (subst (λ o. Led (act l o m) m (machine_of n) p) (sym c.requires.at) e.led) in
    record {
      takes = moved_takes code l c.args.m.now n c.args.word k k p c.requires.can.answered led;
      moved = moved_to code l c.args.m.now n c.args.word k k p c.requires.can.answered led;
      shape = e.shape;
    }
