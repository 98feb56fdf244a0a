use Rattle.scaled_fold.proofs.Sizes.{put_sized}
use Rattle.scaled_fold.proofs.table.Table.put.Goals as goal

pub invariant_of-result : goal.invariant_of-result
invariant_of-result c = record { sized = put_sized c.args.self.vars _ _ c.args.s _ _ c.in_ok-put.ensures c.args.self.sized c.requires.sized }
