use Rattle.gcl_parse.proofs.Excludes.{not_refused, one_refusal}
use Rattle.gcl_parse.proofs.Refuses as refusing
use Rattle.gcl_parse.proofs.laws.program_or_refused.Goals as goal

pub returns-clause-some : goal.returns-clause-some
returns-clause-some c = refusing.program_or_refused

pub returns-clause-place : goal.returns-clause-place
returns-clause-place c = one_refusal

pub returns-clause-apart : goal.returns-clause-apart
returns-clause-apart c ks i p r = not_refused ks i r p
