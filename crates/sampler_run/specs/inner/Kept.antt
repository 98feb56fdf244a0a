-- What a state keeps: it rests, and something is reached within the bound on the steps, from there and from the start.
use Rattle.std.specs.Prelude.{◌≡◌, ℕ, length}
use Rattle.sampler_code.specs.Machine.{step}
use Rattle.sampler_code.specs.Running.{start}
use Rattle.sampler_code.specs.Sound.{Sound}
use Rattle.sampler_code.specs.inner.Bounded.{Answered}
use Rattle.sampler_run.specs.declared.machine.Progress.{Progress}
use Rattle.sampler_run.specs.Held.{Held}
use Rattle.sampler_run.specs.inner.Resting.{Rests}

pub record KeptState (s : Held) (loops count : ℕ) (p : Progress) : Type 0 where
  pub sound : Sound s.code loops count
  pub turns : length s.machine.turns ≡ loops
  pub vars : length s.machine.vars ≡ count
  pub answered : Answered s.code s.limits s.machine
  pub from_start : Answered s.code s.limits (start count loops s.limits)
  pub rests : Rests (step s.code s.limits s.machine) p
