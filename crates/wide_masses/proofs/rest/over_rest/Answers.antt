use Rattle.std.proofs.Common.{◌≡◌, ◌-◌, ◌∙◌, ap, arith}
use Rattle.numbers.specs.Fraction.{lowest}
use Rattle.table_flow.specs.Scale.{whole}
use Rattle.mass_fold.proofs.Passing.{passing_next, passing_end}
use Rattle.mass_fold.proofs.Rest.{rest_above}
use Rattle.wide_masses.proofs.Quotients.{over_is}
use Rattle.wide_masses.proofs.rest.over_rest.Goals as goal

pub loop-x-preserved : goal.loop-x-preserved
loop-x-preserved c =
    let f = c.args.failed.now in
    let es = c.args.table.entries in
    let rest : c.in_ok-rest.rest ≡ f.1 - f.0 = c.in_ok-rest.ensures.0 ∙ ap (λ d. d - c.num.result.now) c.den.ensures.value ∙ ap (λ n. f.1 - n) c.num.ensures.value in
    let is : c.in_ok-times.times ≡ lowest (f.1, f.1 - f.0)
    = c.in_ok-times.ensures.0 ∙ ap (λ d. lowest (d, c.in_ok-rest.rest)) c.den-2.ensures.value ∙ ap (λ r. lowest (f.1, r)) rest in
    record {
      next = tt;
      finite = tt;
      so_far = passing_next (λ N. N - whole N f) (λ N. 1) f es c.loop-x.masses.entries _ c.in-Some.x c.in-Some.s _ c.in-Some.ensures.steps c.loop-x.invariant.so_far c.in_ok-mass.mass
          (over_is c.in-Some.s f c.in_ok-times.times _ c.requires is c.in_ok-mass.ensures.0) _ (rest_above f es c.requires) c.in_ok-add.ensures;
    }

pub returns : goal.returns
returns c = λ N h.
    let f = c.args.failed.now in
    let e = passing_end (λ N. N - whole N f) (λ N. 1) f c.args.table.entries _ _ c.in-None.ensures.steps.0 c.loop-x.invariant.so_far N h in
    (e.0, λ G. let z = e.1 G in omega arith)
