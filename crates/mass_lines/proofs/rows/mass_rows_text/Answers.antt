use Rattle.std.proofs.Common.{◌≡◌, ◌∙◌, ◌+◌, ◌++◌, ap, drop}
use Rattle.report_text.specs.Lines.{mass_text}
use Rattle.mass_lines.specs.MassLines.{mass_rows_text}
use Rattle.mass_lines.specs.Narrow.{IsNarrow}
use Rattle.mass_lines.proofs.NarrowRows.{one_more}
use Rattle.report_text.proofs.RowByRow.{rows_go}
use Rattle.mass_lines.proofs.rows.mass_rows_text.Goals as goal

pub loop-i-preserved : goal.loop-i-preserved
loop-i-preserved c =
    let rows = c.args.rows.now in
    let row = c.get.result.now in
    let line : c.push.new.self ≡ c.loop-i.text ++ mass_text c.args.decimals row.0 row.1 = c.in_ok-push.ensures.ok ∙ ap (λ bytes. c.loop-i.text ++ bytes) (c.bytes.ensures.text ∙ c.mass_line.ensures) in
    record {
      lines = ap (λ text. text ++ mass_rows_text c.args.decimals (drop (c.loop-i.i + 1) rows)) line
          ∙ rows_go (λ r. mass_text c.args.decimals r.0 r.1) rows c.loop-i.i row c.loop-i.text (mass_rows_text c.args.decimals rows) c.get.ensures c.loop-i.invariant.lines;
      narrow = one_more (λ r. IsNarrow r.1) rows c.loop-i.i row c.get.ensures c.is_narrow.ensures c.loop-i.invariant.narrow;
    }
