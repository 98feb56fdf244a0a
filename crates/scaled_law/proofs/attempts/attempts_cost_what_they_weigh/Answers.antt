use Rattle.scaled_law.proofs.AttemptsCost.{still_passes, masses_below, masses_no_more, masses_no_less, limit_little}
use Rattle.scaled_law.proofs.attempts.attempts_cost_what_they_weigh.Goals as goal

pub returns-clause-passes : goal.returns-clause-passes
returns-clause-passes c p n r ok passes = still_passes p ok n r passes

pub returns-clause-below : goal.returns-clause-below
returns-clause-below c p n r ok passes meant spared = masses_below p ok n r passes meant spared

pub returns-clause-no_more : goal.returns-clause-no_more
returns-clause-no_more c p n r ok passes meant = masses_no_more p ok n r passes meant

pub returns-clause-no_less : goal.returns-clause-no_less
returns-clause-no_less c p n r ok passes meant = masses_no_less p ok n r passes meant

pub returns-clause-little : goal.returns-clause-little
returns-clause-little c p n r ok passes some = limit_little p ok n r passes some
