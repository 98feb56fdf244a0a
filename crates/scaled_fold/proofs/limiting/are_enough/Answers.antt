use Rattle.std.proofs.Common.{arith}
use Rattle.std.proofs.lemmas.Bool.{leb-true}
use Rattle.scaled_fold.proofs.Powers.{attempts_enough}
use Rattle.scaled_fold.proofs.limiting.are_enough.Goals as goal

pub returns-clause-enough : goal.returns-clause-enough
returns-clause-enough c h =
    attempts_enough c.args.reads c.args.least c.args.attempts c.bits_of.result c.args.doubled c.bits_of-2.result c.bits_of.ensures.below (c.bits_of-2.ensures.above c.requires)
    (let x = leb-true _ _ h in omega (arith, x, c.from.ensures, c.from-2.ensures, c.from-3.ensures, c.from-4.ensures))
