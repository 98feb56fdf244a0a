use Rattle.gcl_lex.proofs.OneCut.{one_cut}
use Rattle.gcl_lex.proofs.OneReading as reading
use Rattle.gcl_lex.proofs.SomeReading.{answered}
use Rattle.gcl_lex.proofs.lexing.one_answer.Goals as goal

pub returns-clause-tokens : goal.returns-clause-tokens
returns-clause-tokens c = reading.tokens_once

pub returns-clause-refusal : goal.returns-clause-refusal
returns-clause-refusal c = reading.refusal_once

pub returns-clause-apart : goal.returns-clause-apart
returns-clause-apart c = reading.apart

pub returns-clause-pieces : goal.returns-clause-pieces
returns-clause-pieces c text ps qs p q = one_cut p q

pub returns-clause-some : goal.returns-clause-some
returns-clause-some c = answered
