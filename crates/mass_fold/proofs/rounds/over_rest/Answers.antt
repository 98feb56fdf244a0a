use Rattle.std.proofs.Common.{◌≡◌, ◌-◌, ◌<◌, Err, arith}
use Rattle.numbers.specs.Fraction.{IsEqual}
use Rattle.table_flow.specs.Scale.{whole}
use Rattle.mass_fold.proofs.Passing.{passing_next, passing_blames, parts_here}
use Rattle.mass_fold.proofs.Powers.{as_given}
use Rattle.mass_fold.proofs.Rest.{over_is, over_refused, rest_above, blames_more}
use Rattle.mass_fold.proofs.Fits.{fits, none_where_wide, is_wide}
use Rattle.mass_fold.specs.declared.error.MassError.TheVariants.{TooWide}
use Rattle.mass_fold.proofs.rounds.over_rest.Goals as goal

pub loop-x-preserved : goal.loop-x-preserved
loop-x-preserved c =
    let f = c.args.failed.now in
    let es = c.args.table.entries in
    let r = c.of-rest.result in
    let rp : 0 < r.1 = omega (arith, c.of-rest.ensures.lowest.positive) in
    let is : IsEqual r (f.1 - f.0, f.1) = as_given f r _ _ _ c.den.ensures.value c.num.ensures.value c.den-2.ensures.value c.of-rest.ensures.equal in
    record {
      next = tt;
      finite = tt;
      so_far = passing_next (λ N. N - whole N f) (λ N. 1) f es c.loop-x.masses.entries _ c.in-Some.x c.in-Some.s _ c.in-Some.ensures.steps c.loop-x.invariant.so_far c.in_ok-mass.mass
          (λ N p. over_is c.in-Some.s f r c.requires rp is N p c.in_ok-mass.mass (fits _ _ _ c.div.ensures c.in_ok-mass.ensures.value)) _ (rest_above f es c.requires) c.in_ok-add.ensures.ok;
    }

pub returns-in_err-add-clause-cause : goal.returns-in_err-add-clause-cause
returns-in_err-add-clause-cause c =
    let f = c.args.failed.now in
    let es = c.args.table.entries in
    let r = c.of-rest.result in
    let rp : 0 < r.1 = omega (arith, c.of-rest.ensures.lowest.positive) in
    let is : IsEqual r (f.1 - f.0, f.1) = as_given f r _ _ _ c.den.ensures.value c.num.ensures.value c.den-2.ensures.value c.of-rest.ensures.equal in
    let out : c.from_residual-in_err-add.result ≡ Err c.in_err-add.field-0.0 = grind arith in
    rw out (blames_more f es _ (passing_blames (λ N. N - whole N f) (λ N. 1) f es c.loop-x.masses.entries _ c.in-Some.x c.in-Some.s _ c.in-Some.ensures.steps c.loop-x.invariant.so_far c.in_ok-mass.mass
    (λ N p. over_is c.in-Some.s f r c.requires rp is N p c.in_ok-mass.mass (fits _ _ _ c.div.ensures c.in_ok-mass.ensures.value)) (rest_above f es c.requires) (λ N h. let z = h.sum in omega arith) _ c.in_err-add.ensures.cause))

pub returns-in_err-mass-clause-cause : goal.returns-in_err-mass-clause-cause
returns-in_err-mass-clause-cause c =
    let f = c.args.failed.now in
    let es = c.args.table.entries in
    let r = c.of-rest.result in
    let rp : 0 < r.1 = omega (arith, c.of-rest.ensures.lowest.positive) in
    let is : IsEqual r (f.1 - f.0, f.1) = as_given f r _ _ _ c.den.ensures.value c.num.ensures.value c.den-2.ensures.value c.of-rest.ensures.equal in
    let out : c.from_residual.result ≡ Err TooWide = grind (arith, is_wide _ _ c.in_err-mass.ensures.value) in
    rw out (λ N L h. over_refused c.in-Some.s f r c.requires rp is N
    (parts_here (λ N. N - whole N f) (λ N. 1) f es c.loop-x.masses.entries _ c.in-Some.x c.in-Some.s _ c.in-Some.ensures.steps c.loop-x.invariant.so_far N h)
    (rest_above f es c.requires N h) (none_where_wide _ _ _ c.div.ensures c.in_err-mass.ensures.value))
