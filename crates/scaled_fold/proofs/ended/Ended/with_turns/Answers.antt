use Rattle.std.proofs.Common.{refl}
use Rattle.scaled_fold.proofs.MoreEnded.{turns_more}
use Rattle.scaled_fold.proofs.ended.Ended.with_turns.Goals as goal

pub returns : goal.returns
returns c = turns_more c.args.self _ c.args.w refl refl refl c.in_ok-added.ensures refl
