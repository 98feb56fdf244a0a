use Rattle.std.proofs.Common.{◌≡◌, drop}
use Rattle.gcl_core.specs.declared.answers.Limit.TheVariants.{Turns}
use Rattle.gcl_core.specs.declared.answers.Outcome.TheVariants as outcome
use Rattle.posterior_bounds.specs.inner.Rising.{mass_in}
use Rattle.posterior_bounds.proofs.rising.undecided.Given as goal

abbrev pub invariant-loop-i : goal.invariant-loop-i
invariant-loop-i l = mass_in (outcome.Limit Turns) (drop l.i l.masses) ≡ mass_in (outcome.Limit Turns) l.masses
