use Rattle.std.proofs.Common.{sym}
use Rattle.mass_fold.proofs.Insertion.{put_wide}
use Rattle.mass_fold.proofs.Fits.{if_wide}
use Rattle.mass_fold.proofs.outcomes.outcome_sum.Goals as goal

pub returns-in-Some-clause-cause : goal.returns-in-Some-clause-cause
returns-in-Some-clause-cause c =
    if_wide _ _ _ _ c.add.ensures c.ok_or.ensures.value
    (λ no N L pos r w most. put_wide _ _ _ _ N (sym c.in-Some.ensures.value) c.is_lowest-in-Some.ensures c.is_lowest.ensures no pos r w most)
