use Rattle.exact_fold.proofs.Sums.{add_whole}
use Rattle.exact_fold.proofs.program.add.Goals as goal

pub returns : goal.returns
returns c = add_whole c.add.result c.args.sum.now c.args.weight.now c.add.ensures
