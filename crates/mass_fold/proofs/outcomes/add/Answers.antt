use Rattle.std.proofs.Common.{arith}
use Rattle.gcl_core.specs.contracts.answers.OutcomeOrd.TheImpl.Laws.{total-law}
use Rattle.mass_fold.proofs.OutcomeKeys.{add_gives}
use Rattle.mass_fold.proofs.outcomes.add.Goals as goal

pub returns-clause-ok : goal.returns-clause-ok
returns-clause-ok c = rw c.in_ok-insert.ensures.entries (add_gives _ c.outcomes_are_ordered.ensures.outcomes total-law c.args.x c.args.f.now _ _ c.in_ok-insert.ensures.was_ordered (omega (arith, c.if-num-eq0.false, c.num.ensures)) c.in_ok-sum.ensures.ok)
