use Rattle.std.proofs.Common.{◌<◌, arith}
use Rattle.gcl_core.specs.meaning.Draw.{choice_ends}
use Rattle.mass_fold.proofs.Fits.{if_some_as_is}
use Rattle.bits_fold.specs.Counted.{price_of}
use Rattle.bits_fold.proofs.DrawSums.{each_read}
use Rattle.bits_fold.proofs.draws.cost_of_choice.Goals as goal

pub returns : goal.returns
returns c =
    let p = c.args.p in
    let some : 0 < p.den = let z = c.requires.positive in omega arith in
    if_some_as_is _ _ _ c.mul.ensures
    (λ f e. each_read (price_of c.args.what) (choice_ends p) c.args.table.now.states.entries c.in_ok-weight_of.field-0 c.price_of_choice-price.result f some c.price_of_choice-price.ensures.lowest.positive
    c.price_of_choice-price.ensures.equal c.in_ok-weight_of.ensures e)
