use Rattle.std.proofs.Common.{None, Ok, ap, subst}
use Rattle.sampler_code.specs.Assembled.{CodeReaches}
use Rattle.sampler_run.specs.Sampled.{reached_by}
use Rattle.zar_io.specs.StreamBits.{stream_bits}
use Rattle.zar_cli.specs.declared.said.Said.TheVariants.{Answered}
use Rattle.zar_cli.proofs.sampling.run_on_stream.Goals as goal

pub returns-in-Ok : goal.returns-in-Ok
returns-in-Ok c =
    let l = c.args.limits.now in
    let reached = subst (λ bits. CodeReaches c.in_ok-sampler.sampler l bits (reached_by c.in-Ok.stop)) (c.new-bits.ensures.left (λ name. None)) (c.in-Ok.ensures.answer (λ name. None) tt) in
    let is = c.in_ok-sampler.ensures.sampler.only l (stream_bits c.args.seed c.args.stream c.args.budget) _ c.requires.limits (_, reached) in
    record { gives = λ file. ap (λ a. Ok (Answered a)) is }
