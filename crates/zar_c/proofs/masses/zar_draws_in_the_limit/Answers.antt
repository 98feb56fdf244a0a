use Rattle.std.proofs.Common.{sym, subst}
use Rattle.gcl_core.specs.text.Texts.{Spells, SpellsNone}
use Rattle.mass_lines.specs.HowLongLines.{IsDrawsLine}
use Rattle.mass_lines.specs.Reasons.{NoCode}
use Rattle.zar_c.specs.Answered.{NoNumbers}
use Rattle.zar_c.proofs.Answering.{lines_told}
use Rattle.zar_c.proofs.masses.zar_draws_in_the_limit.Goals as goal

pub returns-in-Ok : goal.returns-in-Ok
returns-in-Ok c =
    let text = c.args.text.now in
    lines_told (Spells text) (SpellsNone text) NoNumbers (λ p. IsDrawsLine p 0) (λ p. NoCode) c.args.lines.now c.written.result c.written.new.to c.bytes.result.now
    tt c.written.ensures.told (λ p spells. subst (IsDrawsLine p 0) (sym c.bytes.ensures) (c.in-Ok.ensures.lines p spells)) c.in-Ok.ensures.there
    c.written.ensures.written c.written.ensures.kept
