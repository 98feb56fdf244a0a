use Rattle.std.proofs.Common.{◌∙◌, ap}
use Rattle.gcl_core.specs.meaning.Views.{source_of}
use Rattle.gcl_print.specs.Canonical.{canonical_text}
use Rattle.zar_c.proofs.shown.shown_of.Goals as goal

-- the text has one program as it is written
pub returns-in-Ok-print-clause-lines : goal.returns-in-Ok-print-clause-lines
returns-in-Ok-print-clause-lines c = λ p is.
    let one = c.one_reading.ensures.written c.args.text.now in
    let same = (one.one_program (source_of c.in-Ok.parsed.program) p c.in-Ok.parsed.places is.0 c.in-Ok.ensures.written is.1).0 in
    c.of.ensures ∙ c.in-Ok-print.ensures.text ∙ ap canonical_text same
