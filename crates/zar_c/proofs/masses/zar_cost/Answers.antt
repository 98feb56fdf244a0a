use Rattle.std.proofs.Common.{sym, subst, rules}
use Rattle.gcl_core.specs.meaning.LimitRange.{InRange}
use Rattle.gcl_core.specs.text.Texts.{Spells, SpellsNone}
use Rattle.mass_lines.specs.BitLines.{IsBitLine}
use Rattle.mass_lines.specs.Reasons.{WhyNoBits}
use Rattle.zar_c.specs.Masses.{limits_by}
use Rattle.zar_c.proofs.Answering.{lines_told}
use Rattle.zar_c.proofs.masses.zar_cost.Goals as goal

pub returns-in-Ok : goal.returns-in-Ok
returns-in-Ok c =
    let text = c.args.text.now in
    let l = limits_by c.args.turns c.args.attempts c.args.rounds in
    lines_told (Spells text) (SpellsNone text) (InRange l) (λ p. IsBitLine p l 0) (λ p. WhyNoBits p l) c.args.lines.now c.written.result c.written.new.to c.bytes.result.now
    (search rules) c.written.ensures.told (λ p spells. subst (IsBitLine p l 0) (sym c.bytes.ensures) (c.in-Ok.ensures.lines p spells)) c.in-Ok.ensures.there
    c.written.ensures.written c.written.ensures.kept
