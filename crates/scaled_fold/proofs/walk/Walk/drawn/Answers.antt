use Rattle.std.proofs.Common.{refl}
use Rattle.gcl_core.specs.meaning.Views.{expression_of}
use Rattle.scaled_fold.proofs.Following.{drawn_follows}
use Rattle.scaled_fold.proofs.walk.Walk.drawn.Goals as goal

pub returns : goal.returns
returns c = drawn_follows c.args.self _ refl refl c.in_ok-next.ensures.vars c.args.x (expression_of c.args.e.now) c.args.attempts c.in_ok-next.ensures.next c.in_ok-next.ensures.stopped
