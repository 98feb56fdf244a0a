use Rattle.wide_fold.proofs.Insertion.{each_put, sized_put}
use Rattle.wide_fold.proofs.table.WideTable.put.Goals as goal

pub returns-clause-ok : goal.returns-clause-ok
returns-clause-ok c = each_put _ _ _ _ _ c.put.ensures.ok

pub invariant_of-self : goal.invariant_of-self
invariant_of-self c = record { sized = sized_put _ _ c.args.self.now.sized c.put.result _ _ _ c.put.ensures.ok c.put.ensures.same c.requires }
