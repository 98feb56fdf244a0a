use Rattle.std.proofs.Common.{◌∙◌, ◌++◌, ◌+◌, drop, ap, sym}
use Rattle.posterior_bounds.specs.inner.Rising.{raised}
use Rattle.posterior_bounds.proofs.RisingRows.{raised_one, raised_none}
use Rattle.posterior_bounds.proofs.rising.raised.Goals.{then-is_settled+in-Some+in_ok-push-in-Some, else-is_settled}
use Rattle.posterior_bounds.proofs.rising.raised.Goals as goal

pub loop-i-preserved : goal.loop-i-preserved
loop-i-preserved c =
    elim c.if-is_settled.branch [
      | then-is_settled+in-Some+in_ok-push-in-Some w ↦
          raised_one c.args.masses.now c.loop-i.i c.get.result.now c.get.ensures c.args.other.now c.loop-i.rows.items _ c.loop-i.invariant _ w.in-Some.high
          (sym c.is_settled.ensures ∙ w.if-is_settled.true) w.in-Some.ensures.value (ap (λ r. r.items) w.rows-is ∙ w.in_ok-push-in-Some.ensures.items)
      | else-is_settled w ↦
          ap (λ r. r.items ++ raised c.args.other.now (drop (c.loop-i.i + 1) c.args.masses.now)) w.rows-is
          ∙ raised_none c.args.masses.now c.loop-i.i c.get.result.now c.get.ensures c.args.other.now c.loop-i.rows.items _ c.loop-i.invariant (sym c.is_settled.ensures ∙ w.if-is_settled.false)
    ]
