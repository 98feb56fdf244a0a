use Rattle.std.proofs.Common.{sym, subst, rules}
use Rattle.count_lines.specs.AuditLines.{AreAuditLines}
use Rattle.gcl_core.specs.text.Texts.{Spells, SpellsNone}
use Rattle.zar_c.specs.Counts.{CanAudit}
use Rattle.zar_c.specs.Masses.{limits_by}
use Rattle.zar_c.proofs.Answering.{lines_told}
use Rattle.zar_c.proofs.counts.zar_audit.Goals as goal

pub returns-in-Ok : goal.returns-in-Ok
returns-in-Ok c =
    let text = c.args.text.now in
    let depth = c.args.depth in
    let l = limits_by c.args.turns c.args.attempts c.args.rounds in
    lines_told (Spells text) (SpellsNone text) (CanAudit depth c.args.turns c.args.attempts c.args.rounds) (λ p. AreAuditLines p depth l 0) (λ p code. ⊥) c.args.lines.now c.written.result c.written.new.to c.bytes.result.now
    (search rules) c.written.ensures.told (λ p spells. subst (AreAuditLines p depth l 0) (sym c.bytes.ensures) (c.in-Ok.ensures.lines p spells)) c.in-Ok.ensures.there
    c.written.ensures.written c.written.ensures.kept
