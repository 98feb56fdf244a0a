use Rattle.gcl_core.specs.contracts.answers.OutcomeOrd.TheImpl.Laws.{total-law}
use Rattle.wide_fold.proofs.Weights.{some_of_zero}
use Rattle.wide_masses.proofs.Keys.{add_gives}
use Rattle.wide_masses.proofs.outcomes.add.Goals as goal

pub returns : goal.returns
returns c =
    rw c.in_ok-insert.ensures.entries
    (add_gives _ c.outcomes_are_ordered.ensures.outcomes total-law c.args.x c.args.f.now _ _ c.in_ok-insert.ensures.was_ordered
    (some_of_zero c.is_zero.result _ _ c.is_zero.ensures.1 c.if-is_zero.false c.num.ensures.value) c.in_ok-sum.ensures)
