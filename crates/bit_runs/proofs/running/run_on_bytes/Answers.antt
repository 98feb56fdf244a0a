use Rattle.std.proofs.Common.{[], None, Bool, List, sym, subst}
use Rattle.gcl_core.specs.meaning.Runs.{run_on}
use Rattle.gcl_core.specs.meaning.Views.{source_of}
use Rattle.sampler_run.specs.Held.{Ahead, run_begun}
use Rattle.sampler_run.specs.Sampled.{reached_by}
use Rattle.stream_runs.proofs.OneAnswer.{answer_reached}
use Rattle.zar_io.specs.FileBits.{file_bits}
use Rattle.zar_io.specs.Trace.{World}
use Rattle.bit_runs.proofs.running.run_on_bytes.Goals as goal

pub returns : goal.returns
returns c =
    let none : World = λ name. None in
    let p = source_of c.args.program.now in
    let l = c.args.l.now in
    let bits : List Bool = file_bits c.args.bytes.now in
    let a = reached_by c.in-Ok.stop in
    let reached = subst (λ (w : List Bool). Ahead c.in_ok-state.state w a) (c.new-bits.ensures.left none) (c.in-Ok.ensures.answer none tt) in
    record { answer = answer_reached (run_begun c.in_ok-sampler.sampler l) c.in_ok-state.state (run_on p l) bits a c.in_ok-state.ensures.rest reached (c.in_ok-sampler.ensures.sampler.runs l c.requires.limits) }
