use Rattle.std.proofs.Common.{◌++◌, ◌∙◌, ap, subst}
use Rattle.count_lines.specs.TallyLines.{AreTallyLines}
use Rattle.generated_program.specs.Generated.{generated}
use Rattle.zar_cli.specs.Counts.{size_text, generated_range}
use Rattle.zar_cli.proofs.generating.generated_text.Goals as goal

pub returns : goal.returns
returns g c =
    let k = c.args.k in
    let program = c.in_ok-program.ensures.program in
    let rows = c.in_ok-rows.rows in
    record {
      rows = rows;
      tally = subst (λ l. AreTallyLines (generated k) (generated_range k) l rows) c.usual_limits-limits.ensures.limits
          (subst (λ r. AreTallyLines (generated k) r c.usual_limits-limits.result rows) c.generated_range.ensures
          (subst (λ p. AreTallyLines p c.generated_range.result c.usual_limits-limits.result rows) program c.in_ok-rows.ensures));
      lines = c.in_ok-push.ensures.ok ∙ ap (λ bytes. c.in_ok-text.text ++ bytes) c.bytes.ensures ∙ ap (λ text. text ++ rows) (c.in_ok-text.ensures ∙ ap size_text program);
    }
