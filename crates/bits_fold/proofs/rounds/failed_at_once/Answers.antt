use Rattle.std.proofs.Common.{length}
use Rattle.std.proofs.lemmas.Result.{IfErr-weaker}
use Rattle.gcl_core.specs.meaning.Outcomes.{zeros}
use Rattle.gcl_core.specs.meaning.Views.{source_of}
use Rattle.gcl_core.specs.weighing.WeightedEnds.{sure}
use Rattle.exact_fold.proofs.FreeFlows.{no_loop, free_suffices}
use Rattle.bits_fold.proofs.NoLoops.{refused_at_once}
use Rattle.bits_fold.proofs.rounds.failed_at_once.Goals as goal

pub failed_at-requires-clause-ended : goal.failed_at-requires-clause-ended
failed_at-requires-clause-ended c =
    let p = source_of c.args.p.now in
    free_suffices 1 p.body (no_loop p.body c.requires) (sure (zeros (length p.names)))

pub returns-clause-refused : goal.returns-clause-refused
returns-clause-refused c = IfErr-weaker c.failed_at.result _ _ (refused_at_once (source_of c.args.p.now) c.requires) c.failed_at.ensures.refused
