use Rattle.std.proofs.Common.{◌∙◌, Ok, ap}
use Rattle.gcl_core.specs.declared.syntax.Program.{Program}
use Rattle.gcl_core.specs.meaning.Views.{source_of}
use Rattle.gcl_print.specs.Canonical.{canonical_text}
use Rattle.zar_cli.specs.declared.said.Said.TheVariants.{Shown}
use Rattle.zar_cli.proofs.working.forgetful_text_of.Goals as goal

pub returns : goal.returns
returns c =
    let text =
    c.in_ok-text.ensures.text ∙ ap (λ (q : Program). canonical_text (source_of q)) c.program.ensures.same ∙ ap canonical_text c.in_ok-forgetful.ensures in
    record { gives = λ file. ap (λ t. Ok (Shown t)) (c.of.ensures ∙ text) }
