use Rattle.report_text.specs.Lines.{bound_text}
use Rattle.mass_lines.specs.Narrow.{IsNarrow}
use Rattle.mass_lines.proofs.NarrowRows.{AreWritten}
use Rattle.mass_lines.proofs.rows.bound_rows_text.Given as goal

abbrev pub invariant-loop-i : goal.invariant-loop-i
invariant-loop-i l = AreWritten (λ row. bound_text l.decimals row.0 row.1 row.2) (λ row. IsNarrow row.1 × IsNarrow row.2) l.rows l.i l.text
