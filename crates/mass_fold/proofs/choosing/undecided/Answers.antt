use Rattle.std.proofs.Common.{◌≡◌, Err, arith}
use Rattle.mass_fold.specs.declared.error.MassError.TheVariants.{TooWide}
use Rattle.mass_fold.specs.inner.Steps.{IsParts}
use Rattle.mass_fold.proofs.Bounds.{class_above}
use Rattle.mass_fold.proofs.Fits.{is_wide, some_fits, on_wide}
use Rattle.mass_fold.proofs.Sides.{part_above_zero, parts_refuse, undecided_refused, undecided_to}
use Rattle.mass_fold.proofs.choosing.undecided.Goals as goal

pub returns-in_err-part-clause-cause : goal.returns-in_err-part-clause-cause
returns-in_err-part-clause-cause c =
    let out : c.from_residual.result ≡ Err TooWide = grind (arith, is_wide _ _ c.in_err-part.ensures.value) in
    rw out (parts_refuse c.args.bound c.args.attempts.most c.args.table.now.states.entries c.args.ended.now (on_wide _ _ _ c.parts.ensures.cause c.in_err-part.ensures.value))

pub returns-in_err-end_part-clause-cause : goal.returns-in_err-end_part-clause-cause
returns-in_err-end_part-clause-cause c =
    let p = some_fits _ _ (λ t. IsParts c.args.bound c.args.attempts.most t.0 t.1) c.parts.ensures.value c.in_ok-part.ensures.value in
    let out : c.from_residual-in_err-end_part.result ≡ Err c.in_err-end_part.field-0.0 = grind arith in
    rw out (undecided_refused c.args.bound c.args.attempts.most _ _ p c.args.table.now.states.entries c.args.ended.now c.is_ordered.ensures _ c.in_err-end_part.ensures.cause)

pub returns-clause-above : goal.returns-clause-above
returns-clause-above c =
    let p = some_fits _ _ (λ t. IsParts c.args.bound c.args.attempts.most t.0 t.1) c.parts.ensures.value c.in_ok-part.ensures.value in
    part_above_zero c.args.bound c.args.attempts.most _ _ c.requires.least (class_above c.args.bound c.args.attempts.most c.args.attempts.some) p

pub returns-clause-equal : goal.returns-clause-equal
returns-clause-equal c = (some_fits _ _ (λ t. IsParts c.args.bound c.args.attempts.most t.0 t.1) c.parts.ensures.value c.in_ok-part.ensures.value).part_is

pub returns-clause-ok : goal.returns-clause-ok
returns-clause-ok c =
    let p = some_fits _ _ (λ t. IsParts c.args.bound c.args.attempts.most t.0 t.1) c.parts.ensures.value c.in_ok-part.ensures.value in
    undecided_to c.args.bound c.args.attempts.most _ _ p c.args.table.now.states.entries c.args.ended.now c.is_ordered.ensures _ c.in_ok-end_part.ensures.ok
