use Rattle.std.proofs.Common.{subst}
use Rattle.bit_runs.specs.Rows.{AreInARow}
use Rattle.gcl_core.specs.declared.answers.Limits.{Limits}
use Rattle.gcl_core.specs.meaning.Syntax.{SourceProgram}
use Rattle.gcl_core.specs.meaning.Views.{source_of}
use Rattle.zar_c.specs.Draws.{limits_of}
use Rattle.zar_io.specs.StreamBits.{stream_bits}
use Rattle.zar_c.proofs.rows.zar_draws_in_a_row.Goals as goal

-- the text spells one program
pub returns-in-Ok-draws_on_stream-clause-drawn : goal.returns-in-Ok-draws_on_stream-clause-drawn
returns-in-Ok-draws_on_stream-clause-drawn c = λ done p spells.
    let bits = stream_bits c.args.seed c.args.stream c.args.limits.now.budget in
    let values = c.draws_on_stream.new.values in
    let ends = c.draws_on_stream.new.ends in
    let q = source_of c.in-Ok.program in
    let read = c.in-Ok-draws_on_stream.bits in
    let same = (c.one_reading.ensures.checked c.args.text.now).one_program q p c.in-Ok.ensures.spelled spells in
    let drawn = subst (λ (l : Limits). AreInARow q l bits values ends read) c.run_limits.ensures c.in-Ok-draws_on_stream.ensures.row in
    subst (λ (r : SourceProgram). AreInARow r (limits_of c.args.limits.now) bits values ends read) same drawn
