use Rattle.std.proofs.Common.{arith, sym, ◌∙◌}
use Rattle.numbers.proofs.Settling.{up_stays}
use Rattle.numbers.proofs.powers.power_up.Goals as goal

pub returns-then-next-power-clause-value : goal.returns-then-next-power-clause-value
returns-then-next-power-clause-value c =
    up_stays c.args.q c.loop.counter c.args.count _ (omega arith) c.loop.invariant.0
    (sym c.share_up-next.ensures.value ∙ c.if-next-power.true)
