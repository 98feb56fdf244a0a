use Rattle.std.proofs.Common.{refl}
use Rattle.gcl_core.specs.meaning.Views.{expression_of}
use Rattle.scaled_fold.proofs.Following.{observed_follows}
use Rattle.scaled_fold.proofs.walk.Walk.observed.Goals as goal

pub returns : goal.returns
returns c = observed_follows c.args.self _ refl refl c.in_ok-next.ensures.vars.0 (expression_of c.args.e.now) c.in_ok-next.ensures.first c.in_ok-next.ensures.stopped
