use Rattle.std.proofs.Common.{◌≡◌, ◌∙◌, [], rules, None, Some, sym, ap, subst}
use Rattle.dice_roll.specs.FastRoll.{fast_roll}
use Rattle.report_text.specs.declared.refusals.Refusal.TheVariants.{Read}
use Rattle.zar_io.specs.Trace.{Agrees, left_in}
use Rattle.zar_io.proofs.TraceLemmas.{agrees_before, left_opened}
use Rattle.zar_cli.proofs.Opening.{bits_behind}
use Rattle.zar_cli.proofs.rolling.roll_on_file.Goals as goal

pub returns-in-Ok-clause-answer : goal.returns-in-Ok-clause-answer
returns-in-Ok-clause-answer g c file agrees =
    let same : c.files-1.given.0 ≡ c.roll.new.bits.files.now = search rules in
    let now = subst (λ files. Agrees file (g.F.Files.answered files)) same agrees in
    let first = subst (Agrees file) c.new-bits.ensures.answered (agrees_before file [] _ _ c.in-Ok.ensures.goes_on now) in (
      left_in file (g.F.Files.answered c.open_bits.new.files),
      left_opened file _ _ _ c.in_ok-open_bits.ensures.start first,
      sym (c.in-Ok.ensures.answer file now) ∙ ap (fast_roll c.args.labels c.args.flips) (c.new-bits.ensures.left file),
    )

pub returns-in-Ok-clause-stage : goal.returns-in-Ok-clause-stage
returns-in-Ok-clause-stage g c =
    let same : c.files-1.given.0 ≡ c.roll.new.bits.files.now = search rules in
    bits_behind _ _ _ _ _ _ None c.in_ok-open_bits.ensures.stage c.new-bits.ensures.answered c.in-Ok.ensures.goes_on (ap g.F.Files.answered same) c.in-Ok.ensures.fails

pub returns-in-Err-clause-stage : goal.returns-in-Err-clause-stage
returns-in-Err-clause-stage g c =
    let same : c.files-1.given.0 ≡ c.roll.new.bits.files.now = search rules in
    bits_behind _ _ _ _ _ _ (Some Read) c.in_ok-open_bits.ensures.stage c.new-bits.ensures.answered c.in-Err.ensures.goes_on (ap g.F.Files.answered same)
    (c.in-Err.ensures.fails, c.roll.new.bits.closed_by_a_fault c.in-Err.ensures.broken)
