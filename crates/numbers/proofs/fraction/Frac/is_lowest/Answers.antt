use Rattle.std.proofs.Common.{subst}
use Rattle.numbers.specs.Arithmetic.{InLowest}
use Rattle.numbers.proofs.fraction.Frac.is_lowest.Goals as goal

pub returns : goal.returns
returns c = subst InLowest c.self.view_is c.self.invariant
