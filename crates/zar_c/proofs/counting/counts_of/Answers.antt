use Rattle.std.proofs.Common.{subst}
use Rattle.count_lines.specs.TallyLines.{AreTallyLines}
use Rattle.gcl_core.specs.meaning.Syntax.{SourceProgram}
use Rattle.gcl_core.specs.meaning.Views.{source_of}
use Rattle.zar_c.proofs.counting.counts_of.Goals as goal

-- the text spells one program
pub returns-in-Ok-tally_of-clause-lines : goal.returns-in-Ok-tally_of-clause-lines
returns-in-Ok-tally_of-clause-lines c = λ p spells.
    let one = c.one_reading.ensures.checked c.args.text.now in
    let same = one.one_program (source_of c.in-Ok.program) p c.in-Ok.ensures.spelled spells in
    subst (λ (r : SourceProgram). AreTallyLines r c.args.range.now c.args.l.now c.in-Ok-tally_of.lines) same c.in-Ok-tally_of.ensures
