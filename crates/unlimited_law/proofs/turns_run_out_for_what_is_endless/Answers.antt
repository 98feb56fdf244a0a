use Rattle.std.proofs.Common.{arith}
use Rattle.unlimited_law.proofs.EndlessLimits.{endless_tends}
use Rattle.unlimited_law.proofs.turns_run_out_for_what_is_endless.Goals as goal

pub returns : goal.returns
returns c = λ p f ok o passes n some. endless_tends p ok f o passes n (omega arith)
