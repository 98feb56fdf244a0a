use Rattle.std.proofs.Common.{subst}
use Rattle.gcl_core.specs.meaning.Syntax.{SourceProgram}
use Rattle.gcl_core.specs.meaning.Views.{source_of}
use Rattle.mass_lines.specs.EnclosedLines.{AreEnclosedLines}
use Rattle.mass_lines.specs.Reasons.{WhyNotEnclosed}
use Rattle.zar_c.proofs.Refusing.{by_lines}
use Rattle.zar_c.proofs.weighing.enclosed_of.Goals as goal

pub returns-in-Ok-enclosed_text-clause-lines : goal.returns-in-Ok-enclosed_text-clause-lines
returns-in-Ok-enclosed_text-clause-lines c = λ p spells.
    let one = c.one_reading.ensures.checked c.args.text.now in
    let same = one.one_program (source_of c.in-Ok.program) p c.in-Ok.ensures.spelled spells in
    let a = c.args in
    subst (λ d. AreEnclosedLines p a.turns a.attempts a.rounds a.all_turns d c.in-Ok-enclosed_text.lines) c.none.ensures
    (subst (λ (r : SourceProgram). AreEnclosedLines r a.turns a.attempts a.rounds a.all_turns c.none.result c.in-Ok-enclosed_text.lines) same c.in-Ok-enclosed_text.ensures.lines)

pub returns-clause-refused : goal.returns-clause-refused
returns-clause-refused c =
    let text = c.args.text.now in
    by_lines text (c.one_reading.ensures.checked text) (source_of c.in-Ok.program) c.in-Ok.ensures.spelled c.told.result (λ (p : SourceProgram). WhyNotEnclosed p c.args.turns c.args.attempts c.args.rounds) c.in-Err-enclosed_text.why
    c.told.ensures c.in-Err-enclosed_text.ensures.refused
