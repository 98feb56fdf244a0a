use Rattle.std.proofs.Common.{◌≡◌, ℕ, List, [], ◌++◌, length, ◌∙◌, sym, ap, arith}
use Rattle.gcl_core.proofs.Listed.{listed_all}
use Rattle.gcl_core.specs.text.ReadingOrder.{listed}
use Rattle.gcl_core.specs.text.StatementCounts.{count_all}
use Rattle.gcl_core.specs.meaning.Views.{source_of, statements_of}
use Rattle.gcl_print.specs.Canonical.{canonical_text}
use Rattle.report_text.specs.Lines.{number_text}
use Rattle.report_text.specs.declared.counts.Count.TheVariants.{Statements, Bytes}
use Rattle.zar_cli.proofs.generating.size_text.Goals as goal

three_lines : (t t' t'' t''' a b c : List ℕ) → t ≡ [] → t' ≡ t ++ a → t'' ≡ t' ++ b → t''' ≡ t'' ++ c → t''' ≡ a ++ b ++ c
three_lines t t' t'' t''' a b c e f g h = h ∙ ap (λ s. s ++ c) (g ∙ ap (λ s. s ++ b) (f ∙ ap (λ s. s ++ a) e))

pub returns : goal.returns
returns c =
    let body = (source_of c.args.program.now).body in
    let counted = c.count_statements.ensures ∙ ap (λ p. count_all (statements_of p.body)) c.program-p.ensures.same ∙ sym (listed_all body) in
    let statements : c.bytes.result.now ≡ number_text Statements (length (listed body)) = c.bytes.ensures.text ∙ c.number_line.ensures ∙ ap (number_text Statements) counted in
    let length_of : c.len.result ≡ length c.in_ok-printed.printed.items = omega (arith, c.len.ensures, c.in_ok-printed.printed.ok.0) in
    let bytes : c.bytes-2.result.now ≡ number_text Bytes (length (canonical_text (source_of c.args.program.now))) =
    c.bytes-2.ensures.text ∙ c.number_line-2.ensures
    ∙ ap (number_text Bytes) (length_of ∙ ap length c.in_ok-printed.ensures.text ∙ ap (λ p. length (canonical_text (source_of p))) c.program-p.ensures.same) in
    three_lines c.new-text.result c.push.new.self c.push-2.new.self c.push-3.new.self _ _ _ c.new-text.ensures
    (c.in_ok-push.ensures.ok ∙ ap (λ line. c.new-text.result ++ line) statements)
    (c.in_ok-push-2.ensures.ok ∙ ap (λ line. c.push.new.self ++ line) bytes)
    (c.in_ok-push-3.ensures.ok ∙ ap (λ line. c.push-2.new.self ++ line) (c.bytes-3.ensures.text ∙ c.number_line-3.ensures))
