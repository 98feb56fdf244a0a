use Rattle.std.proofs.Common.{◌≡◌, ◌++◌, drop}
use Rattle.mass_lines.specs.ExactLines.{exact_rows_text}
use Rattle.mass_lines.proofs.rows.wide_rows_text.Given as goal

abbrev pub invariant-loop-i : goal.invariant-loop-i
invariant-loop-i l = l.text ++ exact_rows_text l.decimals (drop l.i l.rows) ≡ exact_rows_text l.decimals l.rows
