use Rattle.bits_law.proofs.RoundsLaw.{rounds_come, rounds_grow}
use Rattle.bits_law.proofs.rounds_tend_to_their_limit.Goals as goal

pub returns-clause-passes : goal.returns-clause-passes
returns-clause-passes c = λ p f ok s passes. rounds_come p ok f s passes

pub returns-clause-unbounded : goal.returns-clause-unbounded
returns-clause-unbounded c = λ p f ok s always. rounds_grow p ok f s always
