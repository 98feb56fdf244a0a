use Rattle.std.proofs.Common.{subst}
use Rattle.gcl_core.specs.meaning.Views.{source_of}
use Rattle.mass_fold.proofs.Listing.{outcomes_ascend}
use Rattle.units_law.specs.Down.{down}
use Rattle.enclose_fold.specs.inner.Outcomes.{AreOutcomes}
use Rattle.enclose_fold.proofs.RoundOf.{all_within, round_gives}
use Rattle.enclose_fold.proofs.enclosing.one_round.Goals as goal

pub returns-clause-ok : goal.returns-clause-ok
returns-clause-ok c =
    let p = source_of c.args.p.now in
    let t = c.in_ok-table in
    let most = all_within p c.args.turns c.args.attempts t.table.states.entries t.ended t.ensures.ok (c.units_are_lost_by_rounding.ensures.none_made down c.products_are_rounded_down.ensures.below c.args.turns c.args.attempts p.body c.is_kept.ensures.weights _) in
    let o : AreOutcomes p.result c.args.all_turns t.table.states.entries t.ended c.in_ok-units.units.entries
    = subst (λ q. AreOutcomes (source_of q).result c.args.all_turns t.table.states.entries t.ended c.in_ok-units.units.entries) c.program-program.ensures.same c.in_ok-units.ensures.ok in
    round_gives p c.args.turns c.args.attempts t.table.states.entries t.ended t.ensures.ok c.args.all_turns c.in_ok-units.units.entries o c.passing-passing.result c.passing-passing.ensures
    (outcomes_ascend _ c.outcomes_are_ordered.ensures.outcomes _ c.is_ordered.ensures) most c.in_ok-units.ensures.all
