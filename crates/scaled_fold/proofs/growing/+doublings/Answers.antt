use Rattle.std.proofs.Common.{arith}
use Rattle.scaled_fold.proofs.Powers.{doubles_once}
use Rattle.scaled_fold.proofs.growing.+doublings.Goals as goal

pub returns-clause-value : goal.returns-clause-value
returns-clause-value t c = doubles_once c.args.most c.args.w c.doublings.result c.if-most-eq0.false (omega (arith, c.if-w.false)) c.doublings.ensures.value
