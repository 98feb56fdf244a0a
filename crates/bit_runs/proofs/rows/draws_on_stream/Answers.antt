use Rattle.std.proofs.Common.{None, Bool, List, subst}
use Rattle.gcl_core.specs.meaning.Views.{source_of}
use Rattle.zar_io.specs.Trace.{World}
use Rattle.bit_runs.specs.Rows.{AreInARow}
use Rattle.bit_runs.proofs.rows.draws_on_stream.Goals as goal

pub returns-in-Ok-clause-row : goal.returns-in-Ok-clause-row
returns-in-Ok-clause-row c =
    let none : World = λ name. None in
    let p = source_of c.args.program.now in
    subst (λ (w : List Bool). AreInARow p c.args.l.now w c.draws_in_a_row.new.values c.draws_in_a_row.new.ends c.in-Ok.read) (c.new-bits.ensures.left none) (c.in-Ok.ensures.row none tt)
