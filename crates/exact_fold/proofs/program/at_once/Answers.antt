use Rattle.std.proofs.Common.{length, arith}
use Rattle.gcl_core.specs.meaning.Outcomes.{zeros}
use Rattle.gcl_core.specs.meaning.Views.{source_of}
use Rattle.gcl_core.specs.weighing.WeightedEnds.{sure}
use Rattle.exact_fold.proofs.FreeFlows.{no_loop, free_suffices}
use Rattle.exact_fold.proofs.EndedMasses.{ended_exact}
use Rattle.exact_fold.proofs.InTheLimit.{is_exact_in_the_limit}
use Rattle.exact_fold.proofs.program.at_once.Goals as goal

pub returns-in-Ok-clause-masses : goal.returns-in-Ok-clause-masses
returns-in-Ok-clause-masses c =
    let program = source_of c.args.program.now in
    let answered = c.in-Ok.ensures in
    let suffice = free_suffices 1 program.body (no_loop program.body c.requires) (sure (zeros (length program.names))) in
    ended_exact program c.is_kept.ensures.kept 1 (omega arith) suffice answered.passes c.in-Ok.rows c.of.result answered.rows c.of.ensures.lowest (omega (arith, c.of.ensures.equal))

pub returns-in-Ok-clause-limits : goal.returns-in-Ok-clause-limits
returns-in-Ok-clause-limits c = is_exact_in_the_limit (source_of c.args.program.now) c.is_kept.ensures.kept c.in-Ok.rows c.of.result (returns-in-Ok-clause-masses c)
