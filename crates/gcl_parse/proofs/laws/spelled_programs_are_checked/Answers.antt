use Rattle.gcl_parse.proofs.SmallNumbers.{spelled_is_checked}
use Rattle.gcl_parse.proofs.laws.spelled_programs_are_checked.Goals as goal

pub returns : goal.returns
returns c text p s = spelled_is_checked text p s
