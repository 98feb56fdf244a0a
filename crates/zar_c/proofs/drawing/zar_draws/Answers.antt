use Rattle.std.proofs.Common.{subst}
use Rattle.gcl_core.specs.declared.answers.Limits.{Limits}
use Rattle.gcl_core.specs.meaning.Syntax.{SourceProgram}
use Rattle.gcl_core.specs.meaning.Views.{source_of}
use Rattle.stream_runs.specs.Draws.{AreDrawn}
use Rattle.zar_c.specs.Draws.{limits_of}
use Rattle.zar_c.proofs.drawing.zar_draws.Goals as goal

-- the text spells one program
pub returns-in-Ok-draws_of-clause-drawn : goal.returns-in-Ok-draws_of-clause-drawn
returns-in-Ok-draws_of-clause-drawn c = λ done p spells.
    let seed = c.args.seed in
    let first = c.args.first in
    let budget = c.args.limits.now.budget in
    let values = c.draws_of.new.values in
    let ends = c.draws_of.new.ends in
    let q = source_of c.in-Ok.program in
    let same = (c.one_reading.ensures.checked c.args.text.now).one_program q p c.in-Ok.ensures.spelled spells in
    let drawn = subst (λ (l : Limits). AreDrawn q l seed first budget values ends) c.run_limits.ensures c.in-Ok-draws_of.ensures.drawn in
    subst (λ (r : SourceProgram). AreDrawn r (limits_of c.args.limits.now) seed first budget values ends) same drawn
