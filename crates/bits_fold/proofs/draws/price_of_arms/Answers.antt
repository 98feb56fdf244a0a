use Rattle.std.proofs.Common.{◌∙◌, sym, subst}
use Rattle.std.specs.List.{sum}
use Rattle.numbers.specs.Fraction.{IsEqual}
use Rattle.gcl_core.specs.meaning.Arms.{parts_of}
use Rattle.gcl_core.specs.meaning.Parts.{partial_sums}
use Rattle.gcl_core.specs.meaning.Views.{list_of_arms}
use Rattle.gcl_core.proofs.PartialSums.{last_is}
use Rattle.bits_law.specs.Price.{bits_price}
use Rattle.bits_fold.specs.declared.counted.Counted.TheVariants as counted
use Rattle.bits_fold.proofs.DrawSums.{price_is, once, never, priced_as}
use Rattle.bits_fold.proofs.draws.price_of_arms.Goals as goal

pub returns-in-Bits-clause-equal : goal.returns-in-Bits-clause-equal
returns-in-Bits-clause-equal c =
    let parts = parts_of (list_of_arms c.args.arms.now) in
    let price = c.of.result in
    let last = last_is parts in
    priced_as c.args.what counted.Bits (partial_sums (parts_of (list_of_arms c.args.arms.now))) price c.in-Bits.is (price_is bits_price (partial_sums parts) c.attempt_of.result (sum parts) price c.attempt_of.ensures (sym last) (subst (λ z. IsEqual price (c.attempt_of.result, z)) (c.from.ensures ∙ c.total.ensures) c.of.ensures.equal))

pub returns-in-Draws-clause-equal : goal.returns-in-Draws-clause-equal
returns-in-Draws-clause-equal c = priced_as c.args.what counted.Draws (partial_sums (parts_of (list_of_arms c.args.arms.now))) c.of-in-Draws.result c.in-Draws.is (once (partial_sums (parts_of (list_of_arms c.args.arms.now))) c.of-in-Draws.result c.of-in-Draws.ensures.equal)

pub returns-in-Turns-clause-equal : goal.returns-in-Turns-clause-equal
returns-in-Turns-clause-equal c = priced_as c.args.what counted.Turns (partial_sums (parts_of (list_of_arms c.args.arms.now))) c.of-in-Turns.result c.in-Turns.is (never (partial_sums (parts_of (list_of_arms c.args.arms.now))) c.of-in-Turns.result c.of-in-Turns.ensures.equal)
