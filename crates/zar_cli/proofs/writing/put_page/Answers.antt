use Rattle.stream_lines.proofs.Behind.{one_behind}
use Rattle.zar_cli.proofs.writing.put_page.Goals as goal

pub returns : goal.returns
returns g c = rw (← c.as_bytes.ensures.value) (one_behind _ _ _ _ _ _ c.in_ok-put_text.ensures c.put_parts.ensures)
