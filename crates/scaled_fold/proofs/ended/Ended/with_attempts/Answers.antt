use Rattle.std.proofs.Common.{refl}
use Rattle.scaled_fold.proofs.MoreEnded.{attempts_more}
use Rattle.scaled_fold.proofs.ended.Ended.with_attempts.Goals as goal

pub returns : goal.returns
returns c = attempts_more c.args.self _ c.args.w refl refl refl refl c.in_ok-added.ensures
