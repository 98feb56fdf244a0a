use Rattle.std.proofs.lemmas.Result.{IfOk-weaker}
use Rattle.std.proofs.Common.{subst}
use Rattle.gcl_core.specs.meaning.Views.{expression_of}
use Rattle.scaled_law.specs.Pairs.{Pairs}
use Rattle.gcl_core.specs.declared.answers.Outcome.{Outcome}
use Rattle.scaled_fold.specs.inner.Outcomes.{AddsResults}
use Rattle.scaled_fold.proofs.Ending.{are_outcomes}
use Rattle.scaled_fold.proofs.outcomes.outcomes_of.Goals as goal

pub returns : goal.returns
returns c =
    let e = expression_of c.args.e.now in
    let I = c.args.table.now.states.entries in
    let values = subst (λ (J : Pairs Outcome). AddsResults e J I c.in_ok-values.values.entries) c.new-none.ensures.empty c.in_ok-values.ensures in
    IfOk-weaker c.add-5.result _ _
    (λ K k. are_outcomes e I c.args.ended _ _ _ _ _ K.entries values c.in_ok-overflows.ensures c.in_ok-divisors.ensures c.in_ok-bounds.ensures c.in_ok-turns.ensures k)
    c.add-5.ensures
