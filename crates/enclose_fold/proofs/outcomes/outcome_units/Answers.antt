use Rattle.gcl_core.specs.meaning.Views.{expression_of}
use Rattle.enclose_fold.proofs.RoundOf.{are_outcomes}
use Rattle.enclose_fold.proofs.outcomes.outcome_units.Goals as goal

pub returns-clause-ok : goal.returns-clause-ok
returns-clause-ok c =
    are_outcomes (expression_of c.args.e.now) c.args.all_turns c.args.table.now.states.entries c.args.ended.now _ c.turns_that_count-turns.ensures _ _ _ _ _ _ _ _ c.new-units.ensures.empty
    c.in_ok-add_results.ensures.ok c.in_ok-add.ensures.ok c.in_ok-add-2.ensures.ok c.in_ok-add-3.ensures.ok c.in_ok-add-4.ensures.ok c.in_ok-add-5.ensures.ok c.in_ok-add-6.ensures.ok
