use Rattle.std.proofs.Common.{◌≡◌, ◌∙◌, ◌+◌, ◌++◌, ap, drop}
use Rattle.count_lines.specs.AuditLines.{share_of, audit_rows_text}
use Rattle.report_text.proofs.RowByRow.{rows_go}
use Rattle.report_text.specs.Lines.{mass_text}
use Rattle.count_lines.proofs.audits.audit_rows_text.Goals as goal

pub loop-i-preserved : goal.loop-i-preserved
loop-i-preserved c =
    let rows = c.args.rows.now in
    let row = c.get-outcome.result in
    let line : c.push.new.self ≡ c.loop-i.text ++ mass_text c.args.decimals row.0 (share_of c.args.depth row.1) =
    c.in_ok-push.ensures.ok ∙ ap (λ bytes. c.loop-i.text ++ bytes) (c.bytes.ensures.text ∙ c.mass_line.ensures ∙ ap (mass_text c.args.decimals row.0) c.share_of.ensures) in
    ap (λ text. text ++ audit_rows_text c.args.depth c.args.decimals (drop (c.loop-i.i + 1) rows)) line
    ∙ rows_go (λ r. mass_text c.args.decimals r.0 (share_of c.args.depth r.1)) rows c.loop-i.i row c.loop-i.text (audit_rows_text c.args.depth c.args.decimals rows) c.get-outcome.ensures c.loop-i.invariant
