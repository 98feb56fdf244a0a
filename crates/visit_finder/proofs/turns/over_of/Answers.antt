use Rattle.std.proofs.Common.{◌≡◌, map, slice_index, sym, ap, subst}
use Rattle.visit_finder.specs.Forms.{IsForm}
use Rattle.visit_finder.specs.Places.{modulus}
use Rattle.visit_finder.proofs.turns.over_of.Goals as goal

pub returns-clause-over : goal.returns-clause-over
returns-clause-over c = (
  c.inverse.ensures.forms,
  λ place within kept.
      let new = c.inverse.new.self in
      let same : modulus c.args.moduli.now place ≡ modulus new place = ap (λ primes. slice_index (map (λ prime. prime.p) primes) place) (sym c.inverse.ensures.loses.0) in
      c.inverse.ensures.inverse place within kept c.args.den (subst (λ p. IsForm p (slice_index c.of_number-below.result.at place) c.args.den) same (c.of_number-below.ensures place within)),
)
