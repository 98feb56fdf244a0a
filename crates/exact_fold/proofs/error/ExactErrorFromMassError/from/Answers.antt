use Rattle.std.proofs.Common.{None, length, subst, arith}
use Rattle.gcl_core.specs.meaning.Outcomes.{zeros}
use Rattle.gcl_core.specs.weighing.WeightedEnds.{sure}
use Rattle.mass_fold.specs.Refused.{MassRefused}
use Rattle.exact_fold.proofs.FreeFlows.{no_loop, free_suffices}
use Rattle.exact_fold.proofs.EndedMasses.{ended_fails}
use Rattle.exact_fold.proofs.InTheLimit.{fails_in_the_limit}
use Rattle.exact_fold.proofs.error.ExactErrorFromMassError.from.Goals as goal

pub returns-in-AllFailed : goal.returns-in-AllFailed
returns-in-AllFailed c = λ p ok free why.
    let suffice = free_suffices 1 p.body (no_loop p.body free) (sure (zeros (length p.names))) in
    fails_in_the_limit p ok (ended_fails p ok 1 (omega arith) suffice (subst (λ e. MassRefused e p 1 None None) c.in-AllFailed.is why).1)
