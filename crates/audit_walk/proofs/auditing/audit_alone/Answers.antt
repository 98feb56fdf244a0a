use Rattle.sampler_run.specs.Held.{run_begun}
use Rattle.audit_walk.proofs.Rests.{rest_here}
use Rattle.audit_walk.proofs.Exact.{exact_audit}
use Rattle.audit_walk.proofs.auditing.audit_alone.Goals as goal

pub returns-clause-runs : goal.returns-clause-runs
returns-clause-runs c =
    let a = c.in_ok-audit.audit in
    λ run is. exact_audit run c.args.depth a.rows a.undecided c.are_kept.ensures
    (c.in_ok-audit.ensures.count.rest run (rest_here (run_begun c.args.s.now c.args.l.now) c.in_ok-state.state run c.in_ok-state.ensures.rest is))
