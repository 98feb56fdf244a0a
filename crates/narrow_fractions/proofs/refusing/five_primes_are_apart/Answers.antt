use Rattle.narrow_fractions.proofs.FivePrimes.{five_apart, five_wide}
use Rattle.narrow_fractions.proofs.refusing.five_primes_are_apart.Goals as goal

pub returns-clause-apart : goal.returns-clause-apart
returns-clause-apart c = five_apart

pub returns-clause-wide : goal.returns-clause-wide
returns-clause-wide c = five_wide
