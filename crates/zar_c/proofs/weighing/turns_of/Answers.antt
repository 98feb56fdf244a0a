use Rattle.std.proofs.Common.{subst}
use Rattle.gcl_core.specs.meaning.Syntax.{SourceProgram}
use Rattle.gcl_core.specs.meaning.Views.{source_of}
use Rattle.mass_lines.specs.HowLongLines.{IsTurnsLine}
use Rattle.mass_lines.specs.Reasons.{NoCode}
use Rattle.zar_c.proofs.Refusing.{by_lines}
use Rattle.zar_c.proofs.weighing.turns_of.Goals as goal

pub returns-in-Ok-turns_text-clause-lines : goal.returns-in-Ok-turns_text-clause-lines
returns-in-Ok-turns_text-clause-lines c = λ p spells.
    let one = c.one_reading.ensures.checked c.args.text.now in
    let same = one.one_program (source_of c.in-Ok.program) p c.in-Ok.ensures.spelled spells in
    subst (λ d. IsTurnsLine p d c.in-Ok-turns_text.lines) c.none.ensures
    (subst (λ (r : SourceProgram). IsTurnsLine r c.none.result c.in-Ok-turns_text.lines) same c.in-Ok-turns_text.ensures.line)

pub returns-clause-refused : goal.returns-clause-refused
returns-clause-refused c =
    let text = c.args.text.now in
    by_lines text (c.one_reading.ensures.checked text) (source_of c.in-Ok.program) c.in-Ok.ensures.spelled c.told.result (λ p. NoCode) c.in-Err-turns_text.why
    c.told.ensures c.in-Err-turns_text.ensures.refused
