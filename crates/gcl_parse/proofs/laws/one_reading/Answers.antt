use Rattle.gcl_parse.proofs.OneReading.{read_as_written}
use Rattle.gcl_parse.proofs.OneSpelling.{read_as_checked}
use Rattle.gcl_parse.proofs.laws.one_reading.Goals as goal

pub returns-clause-written : goal.returns-clause-written
returns-clause-written c =
    read_as_written c.one_answer.ensures.some c.one_answer.ensures.tokens c.one_answer.ensures.refusal c.one_answer.ensures.apart

pub returns-clause-checked : goal.returns-clause-checked
returns-clause-checked c text =
    read_as_checked
    (read_as_written c.one_answer.ensures.some c.one_answer.ensures.tokens c.one_answer.ensures.refusal c.one_answer.ensures.apart text)
