use Rattle.std.proofs.Common.{arith}
use Rattle.gcl_core.specs.text.Grammar as g
use Rattle.gcl_parse.proofs.Steps.{after}
use Rattle.gcl_core.proofs.ViewLemmas as views
use Rattle.gcl_parse.proofs.parser.Parser.draw.Goals as goal

pub returns : goal.returns
returns c =
    let e1 = c.in_ok-sym.ensures in
    let e2 = c.in_ok-key.ensures in
    let e3 = c.in_ok-sym-2.ensures in
    let bound = c.in_ok-bound.ensures in
    let e4 = c.in_ok-sym-3.ensures in
    let e5 = c.in_ok-sym-4.ensures in (
      rw (e1.0, e2.0, e3.0, views.uniform_view) (g.a_uniform (rw (e4.0, e5.0) at bound.0)),
      after e1.1 (after e2.1 (after e3.1 (after bound.1 (after e4.1 e5.1)))),
      omega (arith, e1.2, e2.2, e3.2, bound.2, e4.2, e5.2),
    )
