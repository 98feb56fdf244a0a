use Rattle.std.proofs.Common.{refl, subst}
use Rattle.gcl_core.specs.declared.syntax.Program.{Program}
use Rattle.gcl_core.specs.meaning.Views.{source_of}
use Rattle.scaled_fold.specs.inner.Outcomes.{AreOutcomes}
use Rattle.scaled_fold.proofs.Ending.{round_gives}
use Rattle.scaled_fold.proofs.rounds.ends_of.Goals as goal

pub returns-clause-round : goal.returns-clause-round
returns-clause-round c =
    let w = c.in_ok-walk.walk in
    let K = c.in_ok-outcomes_of.field-0.entries in
    let o = subst (λ (q : Program). AreOutcomes (source_of q).result w.next.states.entries w.ended K) c.program-program.ensures.same c.in_ok-outcomes_of.ensures in
    round_gives (source_of c.args.p.now) c.args.turns c.args.attempts w K w.loose.1 c.in_ok-walk.ensures.ok o refl

pub returns-clause-scale : goal.returns-clause-scale
returns-clause-scale c = c.in_ok-walk.ensures.ok.scale
