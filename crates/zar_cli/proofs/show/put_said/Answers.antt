use Rattle.std.proofs.Common.{◌∙◌, is_err, sym, subst}
use Rattle.zar_io.specs.Written.{IsWritten}
use Rattle.zar_cli.specs.Delivery.{said_text}
use Rattle.zar_cli.proofs.show.put_said.Goals as goal

pub returns-in-Accepted-clause-written : goal.returns-in-Accepted-clause-written
returns-in-Accepted-clause-written g c =
    let before = g.S.Sink.answered c.args.sink.now in
    let now = g.S.Sink.answered c.put_text-in-Accepted.new.sink in
    subst (λ said. IsWritten (is_err c.put_text-in-Accepted.result) before now (said_text said)) (sym c.in-Accepted.is)
    (subst (IsWritten (is_err c.put_text-in-Accepted.result) before now) (c.bytes-in-Accepted.ensures.text ∙ c.check_line.ensures) c.put_text-in-Accepted.ensures)
