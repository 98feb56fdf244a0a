use Rattle.std.proofs.Common.{arith}
use Rattle.gcl_core.specs.text.Grammar as g
use Rattle.gcl_parse.proofs.Steps.{after}
use Rattle.gcl_core.proofs.ViewLemmas as views
use Rattle.gcl_parse.proofs.parser.Parser.assignment.Goals as goal

pub returns : goal.returns
returns c =
    let e = c.in_ok-sym.ensures in
    let value = c.in_ok-value.ensures in
    (rw views.set_view (g.an_assignment (rw e.0 at value.0)), after value.1 e.1, omega (arith, value.2, e.2))
