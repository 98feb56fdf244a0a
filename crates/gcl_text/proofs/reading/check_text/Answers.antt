use Rattle.std.proofs.Common.{◌≡◌, ◌∙◌, sym, subst, ap, Err, arith, ◌<◌, ◌-◌, ◌^◌}
use Rattle.gcl_core.specs.text.StatementCounts.{count_all}
use Rattle.gcl_core.specs.text.Texts.{SpellsNone}
use Rattle.gcl_core.specs.meaning.Views.{source_of}
use Rattle.gcl_check.specs.Refused.{refusal_said}
use Rattle.gcl_text.specs.Readings.{NoneInText, Checks}
use Rattle.gcl_text.proofs.Spelled.{has_place, refused_spells_none, unwritten, lowest_count}
use Rattle.gcl_text.proofs.reading.check_text.Goals as goal

pub returns-in_err-parsed-clause-spelled : goal.returns-in_err-parsed-clause-spelled
returns-in_err-parsed-clause-spelled c =
    let out : c.from_residual.result ≡ Err c.in_err-parsed.field-0.0 = grind arith in
    subst (λ r. Checks c.args.text.now r) (sym out) (unwritten c.args.text.now c.in_err-parsed.field-0.0 c.in_err-parsed.ensures.written)

pub returns-in-Ok-clause-statements : goal.returns-in-Ok-clause-statements
returns-in-Ok-clause-statements c =
    let same = ap (λ p. count_all p.body) c.in-Ok.ensures.program ∙ lowest_count (source_of c.in_ok-parsed.parsed.program).body in
    subst (λ n. n < 2 ^ 32 - 1) (sym same) c.in_ok-parsed.ensures.count

pub check_refusal-requires : goal.check_refusal-requires
check_refusal-requires c =
    has_place c.args.text.now (source_of c.in_ok-parsed.parsed.program) c.in_ok-parsed.parsed.places c.in_ok-parsed.ensures.written (refusal_said c.in-Err.error) c.in-Err.ensures.refused

pub returns-clause-spelled : goal.returns-clause-spelled
returns-clause-spelled c =
    let text = c.args.text.now in
    subst (NoneInText (SpellsNone text)) (sym c.check_refusal.ensures)
    (refused_spells_none text (source_of c.in_ok-parsed.parsed.program) c.in_ok-parsed.parsed.places c.in_ok-parsed.ensures.written
    (refusal_said c.in-Err.error) c.in-Err.ensures.refused)
