use Rattle.numbers.proofs.Terms.{lowest_by, equal_by}
use Rattle.numbers.proofs.fraction.Frac.of.Goals as goal

pub invariant_of-result : goal.invariant_of-result
invariant_of-result c = lowest_by _ _ _ c.requires c.gcd-shared.ensures.value

pub returns-clause-lowest : goal.returns-clause-lowest
returns-clause-lowest c = lowest_by _ _ _ c.requires c.gcd-shared.ensures.value

pub returns-clause-equal : goal.returns-clause-equal
returns-clause-equal c = equal_by _ _ _ c.gcd-shared.ensures.value
