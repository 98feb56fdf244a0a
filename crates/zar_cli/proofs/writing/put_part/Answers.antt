use Rattle.zar_cli.specs.Help.{piece_text}
use Rattle.zar_cli.proofs.Written.{next_fails}
use Rattle.zar_cli.proofs.writing.put_part.Goals as goal

pub returns-in_err-put_piece : goal.returns-in_err-put_piece
returns-in_err-put_piece g c =
    rw c.from_residual.ensures.0 (next_fails c.args.part.now (λ piece. piece_text piece.0.now piece.1) c.loop-words.words-index _ c.loop-words-test.true (g.S.Sink.answered c.args.sink.now) (g.S.Sink.answered c.loop-words.sink) (g.S.Sink.answered c.put_piece.new.sink)
    c.loop-words.invariant.written c.in_err-put_piece.ensures)
