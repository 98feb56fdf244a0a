use Rattle.std.proofs.Common.{◌∙◌, sym}
use Rattle.gcl_core.specs.declared.answers.Limit.TheVariants.{Turns}
use Rattle.gcl_core.specs.declared.answers.Outcome.TheVariants as outcome
use Rattle.posterior_bounds.proofs.RisingRows.{mass_here, mass_behind}
use Rattle.posterior_bounds.proofs.rising.undecided.Goals as goal

pub returns-then-ran_out : goal.returns-then-ran_out
returns-then-ran_out c =
    mass_here c.args.masses.now c.loop-i.i c.get.result.now c.get.ensures (outcome.Limit Turns) _ c.loop-i.invariant (sym c.ran_out.ensures ∙ c.if-ran_out.true)

pub loop-i-preserved : goal.loop-i-preserved
loop-i-preserved c =
    mass_behind c.args.masses.now c.loop-i.i c.get.result.now c.get.ensures (outcome.Limit Turns) _ c.loop-i.invariant (sym c.ran_out.ensures ∙ c.if-ran_out.false)
