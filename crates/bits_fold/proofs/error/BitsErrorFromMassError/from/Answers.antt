use Rattle.std.proofs.Common.{None, subst}
use Rattle.mass_fold.specs.Refused.{RoundRefused}
use Rattle.bits_fold.proofs.EndedRounds.{round_wide}
use Rattle.bits_fold.proofs.error.BitsErrorFromMassError.from.Goals as goal

pub returns-in-TooWide : goal.returns-in-TooWide
returns-in-TooWide c = λ p n ok why. round_wide p ok n (subst (λ e. RoundRefused e p n None) c.in-TooWide.is why)
