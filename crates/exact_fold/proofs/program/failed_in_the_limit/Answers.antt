use Rattle.std.proofs.Common.{arith}
use Rattle.gcl_core.specs.weighing.Mass.{is_failed}
use Rattle.gcl_core.specs.meaning.Views.{source_of}
use Rattle.exact_fold.proofs.Rows.{failed_equal, some_weight}
use Rattle.exact_fold.proofs.program.failed_in_the_limit.Goals as goal

pub returns : goal.returns
returns c =
    let program = source_of c.args.program.now in
    let reached = c.in_ok-_table.ensures.ok in
    let fs = c.in_ok-_table._table.states.entries in
    let gone = c.in_ok-_table.ended in
    record {
      settled = reached.outflow;
      settles = reached.settles;
      fails = failed_equal program reached.outflow fs gone reached.next reached.ends reached.above;
      fraction = let z = some_weight program reached.outflow fs gone reached.next reached.ends reached.above is_failed in omega arith;
    }
