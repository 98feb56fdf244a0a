use Rattle.zar_cli.proofs.Causes.{has_cause}
use Rattle.zar_cli.proofs.laws.answers_have_causes.Goals as goal

pub returns : goal.returns
returns c = has_cause
