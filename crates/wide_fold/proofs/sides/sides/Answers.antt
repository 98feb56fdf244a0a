use Rattle.wide_fold.proofs.Parted.{both_sides}
use Rattle.wide_fold.proofs.sides.sides.Goals as goal

pub returns-clause-ok : goal.returns-clause-ok
returns-clause-ok c = both_sides c.args.p c.args.table.now.states.entries _ _ c.requires c.in_ok-first.ensures.ok c.in_ok-second.ensures.ok
