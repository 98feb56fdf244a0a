use Rattle.report_text.specs.Lines.{mass_text}
use Rattle.mass_lines.specs.Narrow.{IsNarrow}
use Rattle.mass_lines.proofs.NarrowRows.{AreWritten}
use Rattle.mass_lines.proofs.rows.mass_rows_text.Given as goal

abbrev pub invariant-loop-i : goal.invariant-loop-i
invariant-loop-i l = AreWritten (λ row. mass_text l.decimals row.0 row.1) (λ row. IsNarrow row.1) l.rows l.i l.text
