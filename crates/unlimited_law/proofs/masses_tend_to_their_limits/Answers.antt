use Rattle.std.proofs.Common.{arith}
use Rattle.gcl_core.proofs.Accepted.{checked_weights}
use Rattle.unlimited_law.proofs.OneLimit.{mass_converges}
use Rattle.unlimited_law.proofs.ProgramLimits.{mass_tends}
use Rattle.unlimited_law.proofs.masses_tend_to_their_limits.Goals as goal

pub returns-clause-near : goal.returns-clause-near
returns-clause-near c = λ p f ok o passes n some meant spared. mass_tends p f (checked_weights p ok) o passes n (omega arith) meant spared

pub returns-clause-converges : goal.returns-clause-converges
returns-clause-converges c = λ p f ok o passes meant spared. mass_converges p f (checked_weights p ok) o passes meant spared
