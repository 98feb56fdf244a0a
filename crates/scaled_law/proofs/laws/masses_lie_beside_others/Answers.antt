use Rattle.scaled_law.proofs.Sides.{lie_between, passing}
use Rattle.scaled_law.proofs.laws.masses_lie_beside_others.Goals as goal

pub returns-clause-between : goal.returns-clause-between
returns-clause-between c low high down up steer q p n n' r all_turns ok is = lie_between low high steer q p n r ok all_turns n' is down up

pub returns-clause-passes : goal.returns-clause-passes
returns-clause-passes c low high down steer q p n n' r all_turns ok is = passing low high steer q p n r ok all_turns n' is down
