use Rattle.exact_fold.proofs.InTheLimit.{is_exact_in_the_limit, fails_in_the_limit, one_answer, not_both}
use Rattle.exact_fold.proofs.laws.exact_masses_are_told_by_their_limits.Goals as goal

pub returns-clause-limits : goal.returns-clause-limits
returns-clause-limits c = λ p rows endless ok e. is_exact_in_the_limit p ok rows endless e

pub returns-clause-fails : goal.returns-clause-fails
returns-clause-fails c = fails_in_the_limit

pub returns-clause-one : goal.returns-clause-one
returns-clause-one c = λ p rows rows' endless endless' ok e f. one_answer p ok rows rows' endless endless' e f

pub returns-clause-not_both : goal.returns-clause-not_both
returns-clause-not_both c = λ p rows endless ok e all. not_both p ok rows endless e all
