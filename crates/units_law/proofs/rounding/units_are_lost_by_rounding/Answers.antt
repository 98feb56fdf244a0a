use Rattle.std.proofs.Common.{arith, length, [], ◌∷◌}
use Rattle.numbers.specs.declared.units.TheConstants.{ALL}
use Rattle.gcl_core.specs.meaning.Outcomes.{zeros}
use Rattle.units_law.proofs.Spent.{none_made, block_loses}
use Rattle.units_law.proofs.rounding.units_are_lost_by_rounding.Goals as goal

pub returns-clause-none_made : goal.returns-clause-none_made
returns-clause-none_made c = none_made

pub returns-clause-few_lost : goal.returns-clause-few_lost
returns-clause-few_lost c cut h k n r few b w J s = (block_loses cut h k ALL r few n b w J s).1

pub returns-clause-in_a_round : goal.returns-clause-in_a_round
returns-clause-in_a_round c cut h k n r few p w =
    let x = (block_loses cut h k ALL r few n p.body w ((zeros (length p.names), ALL) ∷ []) (omega arith)).1 in
    omega arith
