use Rattle.std.proofs.Common.{subst}
use Rattle.numbers.specs.Arithmetic.{InLowest}
use Rattle.numbers.proofs.fraction.Frac.den.Goals as goal

pub returns-clause-lowest : goal.returns-clause-lowest
returns-clause-lowest c = subst InLowest c.self.view_is c.self.invariant
