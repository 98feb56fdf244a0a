use Rattle.gcl_parse.proofs.Programs.{one_derivation, is_written, arms_counted}
use Rattle.gcl_parse.proofs.laws.one_program.Goals as goal

pub returns-clause-program : goal.returns-clause-program
returns-clause-program c text tokens p q at places d e = one_derivation text tokens d e

pub returns-clause-written : goal.returns-clause-written
returns-clause-written c text tokens p at d = is_written d

pub returns-clause-arms : goal.returns-clause-arms
returns-clause-arms c text tokens p at d = arms_counted d
