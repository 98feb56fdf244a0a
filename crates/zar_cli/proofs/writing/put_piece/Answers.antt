use Rattle.stream_lines.proofs.Behind.{one_behind}
use Rattle.zar_cli.proofs.writing.put_piece.Goals as goal

pub returns-in-Some : goal.returns-in-Some
returns-in-Some g c =
    rw (c.in-Some.is, ← c.as_bytes.ensures.value) (one_behind _ _ _ _ _ _ c.in_ok-put_text.ensures c.put_number.ensures)
