use Rattle.std.proofs.Common.{subst}
use Rattle.gcl_core.specs.meaning.Syntax.{SourceProgram}
use Rattle.gcl_core.specs.meaning.Views.{source_of}
use Rattle.mass_lines.specs.ExactLines.{AreExactLines}
use Rattle.mass_lines.specs.Reasons.{WhyNotExact}
use Rattle.zar_c.proofs.Refusing.{by_lines}
use Rattle.zar_c.proofs.weighing.exact_of.Goals as goal

pub returns-in-Ok-exact_text-clause-lines : goal.returns-in-Ok-exact_text-clause-lines
returns-in-Ok-exact_text-clause-lines c = λ p spells.
    let one = c.one_reading.ensures.checked c.args.text.now in
    let same = one.one_program (source_of c.in-Ok.program) p c.in-Ok.ensures.spelled spells in
    subst (λ d. AreExactLines p d c.in-Ok-exact_text.lines) c.none.ensures
    (subst (λ (r : SourceProgram). AreExactLines r c.none.result c.in-Ok-exact_text.lines) same c.in-Ok-exact_text.ensures.lines)

pub returns-clause-refused : goal.returns-clause-refused
returns-clause-refused c =
    let text = c.args.text.now in
    by_lines text (c.one_reading.ensures.checked text) (source_of c.in-Ok.program) c.in-Ok.ensures.spelled c.told.result (WhyNotExact) c.in-Err-exact_text.why
    c.told.ensures c.in-Err-exact_text.ensures.refused
