use Rattle.std.proofs.Common.{◌∙◌, ap}
use Rattle.gcl_core.specs.meaning.Syntax.{SourceProgram}
use Rattle.gcl_core.specs.meaning.Views.{source_of}
use Rattle.sampler_code.specs.Code.{code_of}
use Rattle.sampler_code.specs.Listing.{listing}
use Rattle.zar_c.proofs.shown.listing_of.Goals as goal

-- the text spells one program
pub returns-in-Ok-listed-clause-lines : goal.returns-in-Ok-listed-clause-lines
returns-in-Ok-listed-clause-lines c = λ p spells.
    let one = c.one_reading.ensures.checked c.args.text.now in
    let same = one.one_program (source_of c.in-Ok.program) p c.in-Ok.ensures.spelled spells in
    c.in-Ok-listed.ensures ∙ ap (λ (r : SourceProgram). listing r.names (code_of r)) same
