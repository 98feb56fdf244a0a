use Rattle.std.specs.List.{sum}
use Rattle.gcl_core.specs.meaning.Arms.{parts_of}
use Rattle.gcl_core.specs.meaning.Parts.{partial_sums}
use Rattle.gcl_core.specs.meaning.Views.{list_of_arms}
use Rattle.gcl_core.proofs.PartialSums.{last_is}
use Rattle.mass_fold.specs.inner.Metering.{PriceBlames, IsPrice}
use Rattle.mass_fold.proofs.Prices.{draw_wide, draw_adds}
use Rattle.mass_fold.proofs.meter.count_arms.Goals as goal
use Rattle.std.proofs.Common.{subst}

pub returns-in-None : goal.returns-in-None
returns-in-None c =
    let ps = parts_of (list_of_arms c.args.arms.now) in
    draw_wide (partial_sums ps) (sum ps) (last_is ps) c.args.attempts.most c.attempt_of.result c.attempt_of.ensures c.args.meter c.in-Bits.field-0 c.args.table.now.states.entries c.requires.table c.in-Bits.is
    (subst (λ b. PriceBlames c.attempt_of.result b c.args.attempts.most) c.total.ensures c.in-None.ensures.cause)

pub returns-in-Some : goal.returns-in-Some
returns-in-Some c =
    let ps = parts_of (list_of_arms c.args.arms.now) in
    draw_adds (partial_sums ps) (sum ps) (last_is ps) c.args.attempts.most c.attempt_of.result c.attempt_of.ensures c.in-Some.bits c.args.table.now.states.entries c.args.meter c.add_each.result
    (subst (λ b. IsPrice c.attempt_of.result b c.args.attempts.most c.in-Some.bits) c.total.ensures c.in-Some.ensures.value) c.add_each.ensures
