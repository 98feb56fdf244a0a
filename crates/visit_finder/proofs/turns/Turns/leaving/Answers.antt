use Rattle.std.specs.BTreeMap.{keys}
use Rattle.std.proofs.lemmas.Result.{IfOk-weaker}
use Rattle.visit_finder.specs.Exact.{AreClosed}
use Rattle.visit_finder.specs.Sources.{AreClosedUnder}
use Rattle.visit_finder.proofs.Closed.{closed_by}
use Rattle.visit_finder.proofs.turns.Turns.leaving.Goals as goal

pub returns-clause-closed : goal.returns-clause-closed
returns-clause-closed c =
    let sources = c.in_ok-sums.sources.entries in
    let turns = c.args.self.now in
    IfOk-weaker c.left.result (λ leaving. AreClosedUnder (keys leaving) sources) (λ leaving. AreClosed (keys leaving) turns)
    (λ leaving closed. closed_by (keys leaving) sources turns c.in_ok-sums.ensures.turns closed) c.left.ensures.closed
