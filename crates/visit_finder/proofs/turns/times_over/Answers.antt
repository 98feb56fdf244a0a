use Rattle.std.proofs.Common.{rules, ◌≡◌, ◌*◌, length}
use Rattle.visit_finder.specs.Places.{modulus}
use Rattle.visit_finder.proofs.Places.{over_by_inverse}
use Rattle.visit_finder.proofs.Adding.{number_at}
use Rattle.visit_finder.proofs.turns.times_over.Goals as goal

pub returns-clause-forms : goal.returns-clause-forms
returns-clause-forms c = λ forms place within.
    let count : length c.args.moduli.now.primes ≡ 5 = search rules in
    let v = number_at c.args.moduli.now place c.args.over.now count within (forms place within) in
    (c.product.ensures place within c.args.num v.0 (c.of_number.ensures place within) v.1).0

pub returns-clause-fraction : goal.returns-clause-fraction
returns-clause-fraction c = λ place den within over. (
  c.args.num * over.0,
  c.product.ensures place within c.args.num over.0 (c.of_number.ensures place within) over.1,
  over_by_inverse (modulus c.args.moduli.now place) c.args.num den over.0 over.2,
)
