use Rattle.std.proofs.Common.{◌∙◌, Ok, ap}
use Rattle.gcl_core.specs.meaning.Views.{source_of}
use Rattle.sampler_code.specs.Assembled.{Assembled}
use Rattle.sampler_code.specs.Listing.{listing}
use Rattle.zar_cli.specs.declared.said.Said.TheVariants.{Shown}
use Rattle.zar_cli.proofs.working.code_of.Goals as goal

pub returns : goal.returns
returns c =
    let code = ap (λ (s : Assembled). s.instrs) c.code.ensures ∙ c.in_ok-sampler.ensures.code.code in
    let text =
    c.in_ok-text.ensures ∙ ap (λ q. listing q.names c.code.result.now.instrs) c.program.ensures.same
    ∙ ap (λ is. listing (source_of c.args.program.now).names is) code in
    record { gives = λ file. ap (λ t. Ok (Shown t)) (c.of.ensures ∙ text) }
