use Rattle.std.proofs.Common.{subst}
use Rattle.gcl_core.specs.meaning.Runs.{run_on}
use Rattle.gcl_core.specs.meaning.Syntax.{SourceProgram}
use Rattle.gcl_core.specs.meaning.Views.{source_of}
use Rattle.zar_c.specs.Masses.{limits_by}
use Rattle.zar_c.specs.Runs.{IsRan}
use Rattle.zar_io.specs.FileBits.{file_bits}
use Rattle.zar_c.proofs.running.zar_run.Goals as goal

-- the text spells one program
pub returns-in-Ok-run_on_bytes-clause-ran : goal.returns-in-Ok-run_on_bytes-clause-ran
returns-in-Ok-run_on_bytes-clause-ran c = λ done p spells.
    let l = limits_by c.args.turns c.args.attempts c.args.rounds in
    let bits = file_bits c.args.bits.now in
    let ran = c.ran_to.result in
    let same = (c.one_reading.ensures.checked c.args.text.now).one_program (source_of c.in-Ok.program) p c.in-Ok.ensures.spelled spells in
    subst (λ (r : SourceProgram). IsRan (run_on r l bits) ran) same (subst (λ a. IsRan a ran) c.in-Ok-run_on_bytes.ensures.answer c.ran_to.ensures)
