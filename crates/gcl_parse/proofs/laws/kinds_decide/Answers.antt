use Rattle.gcl_parse.proofs.Excludes.{is_program, kinds_derive}
use Rattle.gcl_parse.proofs.laws.kinds_decide.Goals as goal

pub returns : goal.returns
returns c text tokens = (λ d. is_program text tokens d.derives, λ p. kinds_derive text tokens p)
