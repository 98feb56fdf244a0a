use Rattle.std.proofs.Common.{⊎_elim, arith, subst}
use Rattle.sampler_run.specs.inner.Tried.{CameTo}
use Rattle.sampler_run.proofs.Trying.{trial_retries, tried_join}
use Rattle.sampler_run.proofs.trials.attempts.Goals as goal

pub loop-trial-preserved : goal.loop-trial-preserved
loop-trial-preserved c =
    let b = c.args.bound in
    let u = c.attempt-came.result.0 in
    let v = c.again-trial.result in
    let i = c.loop-trial.invariant in
    let n = c.attempt-came.ensures in
    let a = c.again-trial.ensures in
    let over = subst (λ o. CameTo b u o) c.in-Rejected.is n.came in
    record {
      need = a.few;
      left = let left = a.left in let after = n.left in let fewer = i.left in omega (arith, left, after, fewer);
      tried = tried_join b c.args.word c.args.trial u v (tried_join b c.args.word c.args.trial c.loop-trial.trial u i.tried n.tried)
          (λ code l x e m at h. trial_retries code l x e b m u v c.args.word at h over (omega (arith, c.if-after-le1.false)) a.need a.low a.tries a.used a.left);
    }

pub returns-then-after-le1-clause-tried : goal.returns-then-after-le1-clause-tried
returns-then-after-le1-clause-tried c = tried_join c.args.bound c.args.word c.args.trial c.loop-trial.trial c.attempt-came.result.0 c.loop-trial.invariant.tried c.attempt-came.ensures.tried

pub returns-in-Number : goal.returns-in-Number
returns-in-Number c = record {
  tried = tried_join c.args.bound c.args.word c.args.trial c.loop-trial.trial c.attempt-came.result.0 c.loop-trial.invariant.tried c.attempt-came.ensures.tried;
  came = c.attempt-came.ensures.came;
  last = λ rejected. ⊎_elim (λ n. absurd (let is = n.1 in cc)) (λ n. absurd (let is = n in cc)) c.in-Number.is;
  need = let need = c.attempt-came.ensures.need in let few = c.loop-trial.invariant.need in omega (arith, need, few);
}
