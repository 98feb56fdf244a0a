use Rattle.std.proofs.Common.{◌≡◌, ◌∙◌, ◌+◌, ◌++◌, ap, drop}
use Rattle.report_text.proofs.RowByRow.{rows_go}
use Rattle.wide_text.specs.WideLines.{wide_mass_text}
use Rattle.mass_lines.specs.ExactLines.{exact_rows_text}
use Rattle.mass_lines.proofs.rows.wide_rows_text.Goals as goal

pub loop-i-preserved : goal.loop-i-preserved
loop-i-preserved c =
    let d = c.args.decimals in
    let rows = c.args.rows.now in
    let row = c.get-row.result.now in
    let line : c.push.new.self ≡ c.loop-i.text ++ wide_mass_text d row.0 row.1 = c.in_ok-push.ensures.ok ∙ ap (λ bytes. c.loop-i.text ++ bytes) (c.bytes.ensures ∙ c.in_ok-mass_line.ensures) in
    ap (λ text. text ++ exact_rows_text d (drop (c.loop-i.i + 1) rows)) line
    ∙ rows_go (λ r. wide_mass_text d r.0 r.1) rows c.loop-i.i row c.loop-i.text (exact_rows_text d rows) c.get-row.ensures c.loop-i.invariant
