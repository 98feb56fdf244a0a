use Rattle.std.proofs.Common.{Some, subst}
use Rattle.mass_fold.specs.Refused.{RoundRefused}
use Rattle.cost_fold.proofs.Whole.{round_wide}
use Rattle.cost_fold.proofs.expected.refusal.Goals as goal

pub returns-in-TooWide : goal.returns-in-TooWide
returns-in-TooWide c = λ p l ok range h. round_wide p l ok range.some_round (subst (λ e. RoundRefused e p l.turns (Some l.attempts)) c.in-TooWide.is h)
