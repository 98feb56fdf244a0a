use Rattle.std.proofs.Common.{subst}
use Rattle.std.proofs.lemmas.Result.{IfOk-weaker}
use Rattle.gcl_core.specs.declared.syntax.Program.{Program}
use Rattle.gcl_core.specs.meaning.Views.{source_of}
use Rattle.scaled_law.specs.Scaled.{begun}
use Rattle.scaled_fold.specs.Doubling.{doubled_round}
use Rattle.scaled_fold.specs.inner.Holding.{Begins, Holds}
use Rattle.scaled_fold.proofs.Ending.{begins}
use Rattle.scaled_fold.proofs.body.walk_through.Goals as goal

pub returns-clause-ok : goal.returns-clause-ok
returns-clause-ok c =
    let p = source_of c.program-program.result.now in
    let b = subst (λ n. Begins n c.in_ok-walk.walk) c.count.ensures c.in_ok-walk.ensures.ok in
    IfOk-weaker c.block.result _ _ (λ t s. subst (λ (q : Program). Holds (doubled_round (source_of q) c.args.turns c.args.attempts) t) c.program-program.ensures.same (s.holds (begun p) (begins p c.in_ok-walk.walk b))) c.block.ensures
