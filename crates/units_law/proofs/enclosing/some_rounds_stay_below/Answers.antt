use Rattle.std.proofs.Common.{arith}
use Rattle.units_law.proofs.SomeRoundsBelow.{rounds_below}
use Rattle.units_law.proofs.enclosing.some_rounds_stay_below.Goals as goal

pub returns-clause-fails : goal.returns-clause-fails
returns-clause-fails c p some one h R = (rounds_below (one.1, 1) p (omega arith) (omega arith) one h (omega arith) R).fails

pub returns-clause-gives : goal.returns-clause-gives
returns-clause-gives c m p some some' one h k R = (rounds_below m p (omega arith) (omega arith) one h k R).gives
