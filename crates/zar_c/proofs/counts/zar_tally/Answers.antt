use Rattle.std.proofs.Common.{sym, subst, rules}
use Rattle.count_lines.specs.TallyLines.{AreTallyLines}
use Rattle.gcl_core.specs.declared.answers.Limits.{Limits}
use Rattle.gcl_core.specs.text.Texts.{Spells, SpellsNone}
use Rattle.zar_c.specs.Counts.{CanCount, range_by}
use Rattle.zar_c.specs.Draws.{limits_of}
use Rattle.zar_c.proofs.Answering.{lines_told}
use Rattle.zar_c.proofs.counts.zar_tally.Goals as goal

pub returns-in-Ok : goal.returns-in-Ok
returns-in-Ok c =
    let text = c.args.text.now in
    let limits = c.args.limits.now in
    let range = range_by c.args.seed c.args.from c.args.to limits.budget in
    lines_told (Spells text) (SpellsNone text) (CanCount limits c.args.from c.args.to) (λ p. AreTallyLines p range (limits_of limits)) (λ p code. ⊥) c.args.lines.now c.written.result c.written.new.to c.bytes.result.now
    (search rules) c.written.ensures.told
    (λ p spells. subst (λ (l : Limits). AreTallyLines p range l c.bytes.result.now) c.run_limits.ensures (subst (AreTallyLines p range c.run_limits.result) (sym c.bytes.ensures) (c.in-Ok.ensures.lines p spells))) c.in-Ok.ensures.there
    c.written.ensures.written c.written.ensures.kept
