use Rattle.std.proofs.Common.{◌<◌, arith}
use Rattle.gcl_core.specs.meaning.Arms.{parts_of}
use Rattle.gcl_core.specs.meaning.Draw.{last_end}
use Rattle.gcl_core.specs.meaning.Parts.{partial_sums}
use Rattle.gcl_core.specs.meaning.Views.{list_of_arms}
use Rattle.gcl_core.proofs.PartialSums.{last_is}
use Rattle.mass_fold.proofs.Fits.{if_some_as_is}
use Rattle.bits_fold.specs.Counted.{price_of}
use Rattle.bits_fold.proofs.DrawSums.{each_read}
use Rattle.bits_fold.proofs.draws.cost_of_arms.Goals as goal

pub returns : goal.returns
returns c =
    let parts = parts_of (list_of_arms c.args.arms.now) in
    let ends = partial_sums parts in
    let last = last_is parts in
    let some : 0 < last_end ends = let z = c.requires.positive in omega arith in
    if_some_as_is _ _ _ c.mul.ensures
    (λ f e. each_read (price_of c.args.what) ends c.args.table.now.states.entries c.in_ok-weight_of.field-0 c.price_of_arms-price.result f some c.price_of_arms-price.ensures.lowest.positive c.price_of_arms-price.ensures.equal
    c.in_ok-weight_of.ensures e)
