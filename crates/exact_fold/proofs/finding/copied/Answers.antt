use Rattle.std.proofs.Common.{arith}
use Rattle.exact_fold.proofs.finding.copied.Goals as goal

pub scale-requires : goal.scale-requires
scale-requires c = omega (arith, c.of.ensures.equal, c.of.ensures.lowest.positive)
