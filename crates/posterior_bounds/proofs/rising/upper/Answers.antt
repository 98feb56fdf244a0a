use Rattle.std.proofs.Common.{◌∙◌, sym}
use Rattle.posterior_bounds.proofs.RisingRows.{sum_is}
use Rattle.posterior_bounds.proofs.rising.upper.Goals as goal

pub returns-clause-value : goal.returns-clause-value
returns-clause-value c =
    sum_is c.args.low.now c.args.other.now c.in_ok-high.high c.is_lowest.ensures c.is_lowest-2.ensures c.is_lowest-3.ensures (sym c.add.ensures ∙ c.in_ok-high.was)
