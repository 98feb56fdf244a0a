use Rattle.gcl_core.specs.text.Grammar as g
use Rattle.gcl_core.proofs.ViewLemmas as views
use Rattle.gcl_parse.proofs.parser.Parser.skip.Goals as goal

pub returns : goal.returns
returns c =
    let e = c.in_ok-sym.ensures in
    (rw (e.0, views.skip_view) g.a_skip, e.1, e.2)
