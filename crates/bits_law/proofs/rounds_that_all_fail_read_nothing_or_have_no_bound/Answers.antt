use Rattle.bits_law.proofs.BitsLaw.{nothing_expected, some_unbounded}
use Rattle.bits_law.proofs.rounds_that_all_fail_read_nothing_or_have_no_bound.Goals as goal

pub returns-clause-nothing : goal.returns-clause-nothing
returns-clause-nothing c = λ p J read f ok o s all none. nothing_expected p ok J read o f s all none

pub returns-clause-unbounded : goal.returns-clause-unbounded
returns-clause-unbounded c = λ p J read f ok o s all some. some_unbounded p ok J read o f s all some
