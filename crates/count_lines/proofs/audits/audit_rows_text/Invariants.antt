use Rattle.std.proofs.Common.{◌≡◌, ◌++◌, drop}
use Rattle.count_lines.specs.AuditLines.{audit_rows_text}
use Rattle.count_lines.proofs.audits.audit_rows_text.Given as goal

abbrev pub invariant-loop-i : goal.invariant-loop-i
invariant-loop-i l = l.text ++ audit_rows_text l.depth l.decimals (drop l.i l.rows) ≡ audit_rows_text l.depth l.decimals l.rows
