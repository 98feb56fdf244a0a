use Rattle.std.proofs.Common.{sym, subst}
use Rattle.numbers.specs.Fraction.{IsEqual}
use Rattle.gcl_core.specs.meaning.Draw.{uniform_ends}
use Rattle.gcl_core.proofs.EqualClasses.{last_of_equal}
use Rattle.bits_law.specs.Price.{bits_price}
use Rattle.bits_fold.specs.declared.counted.Counted.TheVariants as counted
use Rattle.bits_fold.proofs.DrawSums.{price_is, once, never, priced_as}
use Rattle.bits_fold.proofs.draws.bound_price.Goals as goal

pub returns-in-Bits-clause-equal : goal.returns-in-Bits-clause-equal
returns-in-Bits-clause-equal c =
    let m = c.args.bound in
    let price = c.of.result in
    priced_as c.args.what counted.Bits (uniform_ends c.args.bound) price c.in-Bits.is (price_is bits_price (uniform_ends m) c.uniform_bits.result m price c.uniform_bits.ensures.value (sym (last_of_equal m)) (subst (λ z. IsEqual price (c.uniform_bits.result, z)) c.from.ensures c.of.ensures.equal))

pub returns-in-Draws-clause-equal : goal.returns-in-Draws-clause-equal
returns-in-Draws-clause-equal c = priced_as c.args.what counted.Draws (uniform_ends c.args.bound) c.of-in-Draws.result c.in-Draws.is (once (uniform_ends c.args.bound) c.of-in-Draws.result c.of-in-Draws.ensures.equal)

pub returns-in-Turns-clause-equal : goal.returns-in-Turns-clause-equal
returns-in-Turns-clause-equal c = priced_as c.args.what counted.Turns (uniform_ends c.args.bound) c.of-in-Turns.result c.in-Turns.is (never (uniform_ends c.args.bound) c.of-in-Turns.result c.of-in-Turns.ensures.equal)
