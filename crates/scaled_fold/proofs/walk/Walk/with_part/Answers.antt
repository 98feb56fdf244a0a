use Rattle.std.proofs.Common.{refl}
use Rattle.scaled_fold.proofs.Following.{part_follows}
use Rattle.scaled_fold.proofs.walk.Walk.with_part.Goals as goal

pub returns : goal.returns
returns c = part_follows c.args.self _ refl c.in_ok-side.ensures.vars _ c.in_ok-topped.ensures.ok c.args.odds.bound c.args.odds.attempts c.args.count c.in_ok-side.ensures.next refl refl
