use Rattle.std.proofs.Common.{ℕ, Option, subst, rules}
use Rattle.gcl_core.specs.text.Texts.{Spells, SpellsNone}
use Rattle.mass_lines.specs.EnclosedLines.{AreEnclosedLines}
use Rattle.mass_lines.specs.Reasons.{WhyNotEnclosed}
use Rattle.zar_c.specs.Masses.{CanWeigh, limit_of}
use Rattle.zar_c.specs.inner.Refusing.{IsRefusal}
use Rattle.zar_c.proofs.Answering.{none_told}
use Rattle.zar_c.proofs.masses.zar_enclose.Goals as goal

pub returns-in-Err : goal.returns-in-Err
returns-in-Err c =
    let a = c.args in
    let text = a.text.now in
    let r = limit_of a.attempts in
    let R = limit_of a.rounds in
    let Refuses = λ (attempts : Option ℕ) (rounds : Option ℕ). IsRefusal (Spells text) (SpellsNone text) (λ p. WhyNotEnclosed p a.turns attempts rounds) c.in-Err.said in
    let refused = subst (λ rounds. Refuses r rounds) c.limit-2.ensures.limit (subst (λ attempts. Refuses attempts c.limit-2.result) c.limit.ensures.limit c.in-Err.ensures.refused) in
    none_told (Spells text) (SpellsNone text) (CanWeigh a.turns a.attempts a.rounds) (λ p. AreEnclosedLines p a.turns r R a.all_turns 0) (λ p. WhyNotEnclosed p a.turns r R) a.lines.now c.in-Err.said (search rules) refused
