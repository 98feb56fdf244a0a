use Rattle.std.proofs.Common.{◌≡◌, ◌∙◌, ◌<◌, ◌++◌, sym, ap, arith}
use Rattle.wide_text.specs.WideLines.{wide_endless_text}
use Rattle.mass_lines.specs.ExactLines.{exact_rows_text}
use Rattle.mass_lines.proofs.NarrowLines.{parts_fit, rows_alike, ends_there, goes_on}
use Rattle.mass_lines.proofs.rows.narrow_exact_lines.Goals as goal

pub returns-then-num-eq0 : goal.returns-then-num-eq0
returns-then-num-eq0 c =
    let d = c.args.decimals in
    let masses = c.args.masses.now in
    let rows = c.in_ok-text.ensures in
    let same = rows_alike d (c.narrow_lines.ensures.mass d) masses.rows rows.narrow in
    ends_there d masses.rows c.in_ok-text.text masses.endless (rows.lines ∙ same) (sym c.num.ensures.value ∙ c.if-num-eq0.true)

pub returns : goal.returns
returns c =
    let d = c.args.decimals in
    let masses = c.args.masses.now in
    let rows = c.in_ok-text.ensures in
    let same = rows_alike d (c.narrow_lines.ensures.mass d) masses.rows rows.narrow in
    let fit = parts_fit masses.endless c.is_narrow.ensures in
    let last : c.bytes.result.now ≡ wide_endless_text d masses.endless = c.bytes.ensures.text ∙ c.endless_line.ensures ∙ sym (c.narrow_lines.ensures.endless d masses.endless fit.0 fit.1) in
    let all : c.push.new.self ≡ exact_rows_text d masses.rows ++ wide_endless_text d masses.endless =
    c.in_ok-push.ensures.ok ∙ ap (λ line. c.in_ok-text.text ++ line) last ∙ ap (λ text. text ++ wide_endless_text d masses.endless) (rows.lines ∙ same) in
    let some : 0 < masses.endless.0 = omega (arith, c.if-num-eq0.false, c.num.ensures.value) in
    goes_on d masses.rows c.push.new.self masses.endless all some
