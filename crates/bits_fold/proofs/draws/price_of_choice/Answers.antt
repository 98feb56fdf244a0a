use Rattle.std.proofs.Common.{refl, subst}
use Rattle.numbers.specs.Fraction.{IsEqual}
use Rattle.gcl_core.specs.meaning.Draw.{choice_ends}
use Rattle.bits_law.specs.Price.{bits_price}
use Rattle.bits_fold.specs.declared.counted.Counted.TheVariants as counted
use Rattle.bits_fold.proofs.DrawSums.{price_is, once, never, priced_as}
use Rattle.bits_fold.proofs.draws.price_of_choice.Goals as goal

pub returns-in-Bits-clause-equal : goal.returns-in-Bits-clause-equal
returns-in-Bits-clause-equal c =
    let p = c.args.p in
    let price = c.of.result in
    priced_as c.args.what counted.Bits (choice_ends c.args.p) price c.in-Bits.is (price_is bits_price (choice_ends p) c.choice_bits.result p.den price c.choice_bits.ensures.value refl (subst (λ z. IsEqual price (c.choice_bits.result, z)) c.from.ensures c.of.ensures.equal))

pub returns-in-Draws-clause-equal : goal.returns-in-Draws-clause-equal
returns-in-Draws-clause-equal c = priced_as c.args.what counted.Draws (choice_ends c.args.p) c.of-in-Draws.result c.in-Draws.is (once (choice_ends c.args.p) c.of-in-Draws.result c.of-in-Draws.ensures.equal)

pub returns-in-Turns-clause-equal : goal.returns-in-Turns-clause-equal
returns-in-Turns-clause-equal c = priced_as c.args.what counted.Turns (choice_ends c.args.p) c.of-in-Turns.result c.in-Turns.is (never (choice_ends c.args.p) c.of-in-Turns.result c.of-in-Turns.ensures.equal)
