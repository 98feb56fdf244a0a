use Rattle.std.proofs.Common.{◌≡◌, Err, arith}
use Rattle.mass_fold.specs.Rounds.{geometric, scale_of, IsRepeated}
use Rattle.mass_fold.proofs.Failing.{at_scale, rows_room, with_limit, limit_blames, power_blames}
use Rattle.mass_fold.proofs.Passing.{passing_end, passing_next, passing_blames, parts_here}
use Rattle.mass_fold.proofs.Repeats.{parts_blame, parts_turn}
use Rattle.mass_fold.proofs.Fits.{is_wide, some_fits, on_wide}
use Rattle.mass_fold.specs.declared.error.MassError.TheVariants.{TooWide}
use Rattle.mass_fold.specs.inner.Steps.{IsPower}
use Rattle.mass_fold.proofs.rounds.in_rounds.Goals as goal

pub loop-x-preserved : goal.loop-x-preserved
loop-x-preserved c =
    let f = c.args.failed.now in
    let R = c.args.rounds in
    let es = c.args.table.entries in
    record {
      next = tt;
      finite = tt;
      so_far = passing_next (λ N. scale_of N f R) (λ N. geometric f R) f es c.loop-x.masses.entries _ c.in-Some.x c.in-Some.s _ c.in-Some.ensures.steps c.loop-x.invariant.so_far c.in_ok-mass.mass
          (parts_turn _ f R _ (some_fits _ _ (IsRepeated _ f R) c.repeated.ensures.value c.in_ok-mass.ensures.value)) _ (λ N h. (at_scale f es R c.requires.some c.requires.most N h).positive) c.in_ok-add.ensures.ok;
    }

pub returns-in_err-add-clause-cause : goal.returns-in_err-add-clause-cause
returns-in_err-add-clause-cause c =
    let f = c.args.failed.now in
    let R = c.args.rounds in
    let es = c.args.table.entries in
    let out : c.from_residual-in_err-add.result ≡ Err c.in_err-add.field-0.0 = grind arith in
    rw out (passing_blames (λ N. scale_of N f R) (λ N. geometric f R) f es c.loop-x.masses.entries _ c.in-Some.x c.in-Some.s _ c.in-Some.ensures.steps c.loop-x.invariant.so_far c.in_ok-mass.mass
    (parts_turn _ f R _ (some_fits _ _ (IsRepeated _ f R) c.repeated.ensures.value c.in_ok-mass.ensures.value)) (λ N h. (at_scale f es R c.requires.some c.requires.most N h).positive) (rows_room f es R c.requires.some c.requires.most) _ c.in_err-add.ensures.cause)

pub returns-in_err-mass-clause-cause : goal.returns-in_err-mass-clause-cause
returns-in_err-mass-clause-cause c =
    let f = c.args.failed.now in
    let R = c.args.rounds in
    let out : c.from_residual.result ≡ Err TooWide = grind (arith, is_wide _ _ c.in_err-mass.ensures.value) in
    rw out (λ N L h. parts_blame _ f R (on_wide _ _ _ c.repeated.ensures.cause c.in_err-mass.ensures.value) N (parts_here (λ N. scale_of N f R) (λ N. geometric f R) f c.args.table.entries c.loop-x.masses.entries _ c.in-Some.x c.in-Some.s _ c.in-Some.ensures.steps c.loop-x.invariant.so_far N h))

pub returns-in_err-add-2-clause-cause : goal.returns-in_err-add-2-clause-cause
returns-in_err-add-2-clause-cause c =
    let f = c.args.failed.now in
    let R = c.args.rounds in
    let es = c.args.table.entries in
    let out : c.from_residual-in_err-add-2.result ≡ Err c.in_err-add-2.field-0.0 = grind arith in
    rw out (limit_blames f R c.requires.some c.requires.most es c.loop-x.masses.entries (passing_end (λ N. scale_of N f R) (λ N. geometric f R) f es _ _ c.in-None.ensures.steps.0 c.loop-x.invariant.so_far)
    c.in_ok-rest.rest (some_fits _ _ (IsPower f R) c.all_failed.ensures.value c.in_ok-rest.ensures.value) _ c.in_err-add-2.ensures.cause)

pub returns-in_err-rest-clause-cause : goal.returns-in_err-rest-clause-cause
returns-in_err-rest-clause-cause c =
    let out : c.from_residual-in_err-rest.result ≡ Err TooWide = grind (arith, is_wide _ _ c.in_err-rest.ensures.value) in
    rw out (λ N L h. power_blames c.args.failed.now c.args.rounds c.requires.some c.requires.most c.args.table.entries (on_wide _ _ _ c.all_failed.ensures.cause c.in_err-rest.ensures.value) N h)

pub returns-clause-ok : goal.returns-clause-ok
returns-clause-ok c =
    let f = c.args.failed.now in
    let R = c.args.rounds in
    let es = c.args.table.entries in
    with_limit f R c.requires.some c.requires.most es c.loop-x.masses.entries (passing_end (λ N. scale_of N f R) (λ N. geometric f R) f es _ _ c.in-None.ensures.steps.0 c.loop-x.invariant.so_far)
    c.in_ok-rest.rest (some_fits _ _ (IsPower f R) c.all_failed.ensures.value c.in_ok-rest.ensures.value) _ c.in_ok-add-2.ensures.ok
