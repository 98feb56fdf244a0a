use Rattle.std.proofs.Common.{refl}
use Rattle.scaled_fold.proofs.Following.{none_aside_follows}
use Rattle.scaled_fold.proofs.walk.Walk.with_none_aside.Goals as goal

pub returns : goal.returns
returns c = none_aside_follows c.args.self _ refl refl _ c.in_ok-topped.ensures.ok refl c.new-none.ensures.empty refl
