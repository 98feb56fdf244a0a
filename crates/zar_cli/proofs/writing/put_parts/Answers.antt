use Rattle.std.proofs.Common.{flat_map}
use Rattle.zar_cli.specs.Help.{piece_text}
use Rattle.zar_cli.proofs.Written.{next_fails}
use Rattle.zar_cli.proofs.writing.put_parts.Goals as goal

pub returns-in_err-put_part : goal.returns-in_err-put_part
returns-in_err-put_part g c =
    rw c.from_residual.ensures.0 (next_fails c.args.parts.now (λ part. flat_map (λ piece. piece_text piece.0.now piece.1) part.now) c.loop-part.part-index _ c.loop-part-test.true (g.S.Sink.answered c.args.sink.now) (g.S.Sink.answered c.loop-part.sink) (g.S.Sink.answered c.put_part.new.sink)
    c.loop-part.invariant.written c.in_err-put_part.ensures)
