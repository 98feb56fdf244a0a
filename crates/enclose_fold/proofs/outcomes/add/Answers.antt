use Rattle.gcl_core.specs.contracts.answers.OutcomeOrd.TheImpl.Laws.{total-law}
use Rattle.enclose_fold.proofs.Adding.{adds, adds_all}
use Rattle.enclose_fold.proofs.outcomes.add.Goals as goal

pub returns-clause-ok : goal.returns-clause-ok
returns-clause-ok c = adds _ c.outcomes_are_ordered.ensures.outcomes total-law c.args.x c.args.w _ c.args.units.now.entries _ c.in_ok-insert.ensures.was_ordered c.sum_at-sum.ensures c.in_ok-insert.ensures.entries

pub returns-clause-all : goal.returns-clause-all
returns-clause-all c = adds_all _ c.outcomes_are_ordered.ensures.outcomes total-law c.args.x c.args.w _ c.args.units.now.entries _ c.in_ok-insert.ensures.was_ordered c.sum_at-sum.ensures c.in_ok-insert.ensures.entries
