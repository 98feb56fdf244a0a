use Rattle.many_runs.proofs.AllStrings.{all_long, all_evenly}
use Rattle.many_runs.proofs.Fronts.{follows_fronts}
use Rattle.many_runs.proofs.runs_follow_the_fronts_of_streams.Goals as goal

pub returns-clause-follow : goal.returns-clause-follow
returns-clause-follow c = follows_fronts

pub returns-clause-lengths : goal.returns-clause-lengths
returns-clause-lengths c = all_long

pub returns-clause-even : goal.returns-clause-even
returns-clause-even c = all_evenly
