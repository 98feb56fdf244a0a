use Rattle.std.proofs.Common.{refl}
use Rattle.gcl_core.specs.meaning.Views.{expression_of}
use Rattle.scaled_fold.proofs.Following.{parted_follows}
use Rattle.scaled_fold.proofs.walk.Walk.parted.Goals as goal

pub returns : goal.returns
returns c = parted_follows c.args.self _ refl c.in_ok-next.ensures.vars.0 _ c.in_ok-topped.ensures.ok (expression_of c.args.e.now) c.in_ok-next.ensures.first c.in_ok-next.ensures.second c.in_ok-next.ensures.stopped
