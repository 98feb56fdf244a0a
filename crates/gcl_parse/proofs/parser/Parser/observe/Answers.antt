use Rattle.std.proofs.Common.{arith}
use Rattle.gcl_core.specs.text.Grammar as g
use Rattle.gcl_parse.proofs.Steps as step
use Rattle.gcl_parse.proofs.Steps.{after, fails_after, fails_here}
use Rattle.gcl_core.proofs.ViewLemmas as views
use Rattle.gcl_parse.proofs.parser.Parser.observe.Goals as goal

pub returns : goal.returns
returns c =
    let e = c.in_ok-sym.ensures in
    let test = c.in_ok-test.ensures in
    (rw views.observe_view (g.an_observation (rw e.0 at test.0)), step.after test.1 e.1, omega (arith, test.2, e.2))
