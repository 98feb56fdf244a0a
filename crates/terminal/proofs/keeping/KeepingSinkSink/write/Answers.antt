use Rattle.std.proofs.Common.{ap}
use Rattle.terminal.specs.declared.keeping.TheConstants.{MOST_KEPT}
use Rattle.zar_io.specs.Trace.{written}
use Rattle.terminal.proofs.KeptLemmas.{kept_on}
use Rattle.terminal.proofs.keeping.KeepingSinkSink.write.Goals as goal

pub invariant_of-self-2-clause-front : goal.invariant_of-self-2-clause-front
invariant_of-self-2-clause-front g c =
    kept_on MOST_KEPT c.in_ok-n.n _ _ (written (g.S.Sink.answered c.args.self.now.sink)) _ c.args.piece.now
    c.keep-self.ensures.kept c.args.self.now.front (ap written c.in_ok-n.ensures.answered)
