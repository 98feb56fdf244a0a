use Rattle.std.proofs.lemmas.Result.{IfOk-weaker}
use Rattle.gcl_core.specs.meaning.Runs.{run_on}
use Rattle.gcl_core.specs.meaning.Views.{source_of}
use Rattle.stream_runs.proofs.programs.draws_of.Goals as goal

pub returns-clause-drawn : goal.returns-clause-drawn
returns-clause-drawn c =
    let p = source_of c.args.program.now in
    let l = c.args.l.now in
    IfOk-weaker c.draws_into.result _ _ (λ done drawn. drawn (run_on p l) (c.in_ok-sampler.ensures.sampler.runs l c.requires.limits)) c.draws_into.ensures.drawn
