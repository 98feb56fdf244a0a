use Rattle.gcl_core.specs.contracts.answers.OutcomeOrd.TheImpl.Laws.{total-law}
use Rattle.scaled_fold.proofs.Adding.{adds}
use Rattle.scaled_fold.proofs.outcomes.add.Goals as goal

pub returns : goal.returns
returns c = adds _ c.outcomes_are_ordered.ensures.outcomes total-law c.args.x c.args.w _ c.args.before.entries _ c.in_ok-insert.ensures.was_ordered c.in_ok-sum.ensures c.in_ok-insert.ensures.entries
