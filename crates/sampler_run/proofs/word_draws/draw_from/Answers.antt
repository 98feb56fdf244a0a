use Rattle.std.proofs.Common.{◌≡◌, refl, sym, subst}
use Rattle.gcl_core.specs.declared.answers.Limit.TheVariants.{Attempts}
use Rattle.gcl_core.specs.declared.answers.Outcome.TheVariants as outcome
use Rattle.sampler_code.specs.Machine.{ends, step}
use Rattle.sampler_run.specs.Views.{machine_of}
use Rattle.sampler_run.specs.declared.machine.Pace.TheVariants as pace
use Rattle.sampler_run.specs.inner.Resting.{Asks}
use Rattle.sampler_run.specs.inner.Tried.{CameTo}
use Rattle.sampler_run.proofs.Draws.{drawn, rests, stands_at}
use Rattle.sampler_run.proofs.Trying.{trial_asks, trial_ends}
use Rattle.sampler_run.proofs.word_draws.draw_from.Goals as goal

pub returns-in-Number-clause-moved : goal.returns-in-Number-clause-moved
returns-in-Number-clause-moved c code l e at can begun =
    let b = c.args.bound in
    let u = c.attempts-came.result.0 in
    let n = c.attempts-came.ensures in
    let kept = c.store_number.ensures in
    drawn code l c.args.x e b c.args.m.now c.store_number.new.m c.args.word c.args.left.now c.args.trial u at can.answered begun
    n.tried (record { turns = kept.shape.turns; vars = kept.shape.vars; stack = kept.shape.stack }) c.in-Number.number (subst (λ o. CameTo b u o) c.in-Number.is n.came) kept.stored

pub returns-in-NeedBit-clause-moved : goal.returns-in-NeedBit-clause-moved
returns-in-NeedBit-clause-moved c code l e at can begun =
    let b = c.args.bound in
    let m = machine_of c.args.m.now in
    let u = c.attempts-came.result.0 in
    let n = c.attempts-came.ensures in
    let came = subst (λ o. CameTo b u o) c.in-NeedBit.is n.came in
    let here = stands_at m b u _ c.under_way-m.ensures in
    rests code l c.args.x e b c.args.m.now _ c.args.word c.args.left.now c.args.trial u at can.answered begun
    n.tried (record { turns = refl; vars = refl; stack = refl }) pace.NeedBit here (subst (λ n. Asks (step code l n)) (sym here) (trial_asks code l c.args.x e b m u at came.0 came.1), came.2)

pub returns-in-Rejected-clause-moved : goal.returns-in-Rejected-clause-moved
returns-in-Rejected-clause-moved c code l e at can begun =
    let b = c.args.bound in
    let m = machine_of c.args.m.now in
    let u = c.attempts-came.result.0 in
    let n = c.attempts-came.ensures in
    let came = subst (λ o. CameTo b u o) c.in-Rejected.is n.came in
    let here = stands_at m b u _ c.under_way-m-in-Rejected.ensures in
    rests code l c.args.x e b c.args.m.now _ c.args.word c.args.left.now c.args.trial u at can.answered begun
    n.tried (record { turns = refl; vars = refl; stack = refl }) (pace.Ended (outcome.Limit Attempts)) here (subst (λ n. step code l n ≡ ends (outcome.Limit Attempts)) (sym here) (trial_ends code l c.args.x e b m u at came (n.last c.in-Rejected.is)))
