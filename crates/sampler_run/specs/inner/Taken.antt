-- Runs that take some of the bits at hand.
use Rattle.std.specs.Prelude.{◌≡◌, ◌⊎◌, Bool, List, [], ◌∷◌, ◌++◌, Option, Some, None}
use Rattle.sampler_code.specs.Machine.{Machine, Next, goes, ends}
use Rattle.sampler_code.specs.Running.{Reached}
use Rattle.sampler_run.specs.Telling.{progress_in}
use Rattle.sampler_run.specs.declared.machine.Progress.TheVariants.{NeedBit}
use Rattle.sampler_run.specs.declared.machine.Pace.{Pace}
use Rattle.sampler_run.specs.declared.machine.Pace.TheVariants as pace
use Rattle.sampler_run.specs.inner.Resting.{Asks, side}

-- a bit is needed
abbrev pub NeedsMore : Option Reached → Type 0
NeedsMore None = ⊥
NeedsMore (Some a) = NeedBit ≡ progress_in a.answer

-- the run needs each of the bits, after those before it
abbrev pub Needs : (List Bool → Option Reached) → List Bool → Type 0
Needs run [] = Unit {0}
Needs run (b ∷ u) = NeedsMore (run []) × Needs (λ v. run (b ∷ v)) u

-- Some first bits were taken, each of which the run needs after those before it; and the rest of the run is what the run does
-- after them.
pub record Takes (run rest : List Bool → Option Reached) (old new : List Bool) : Type 0 where
  pub taken : List Bool
  pub split : old ≡ taken ++ new
  pub same : (v : List Bool) → rest v ≡ run (taken ++ v)
  pub needed : Needs run taken

-- from old to new by one instruction, which may take a bit
abbrev pub LedBy : Next → Machine → Machine → Pace → List Bool → List Bool → Type 0
LedBy x old new pace.On before after =
    ((x ≡ goes new) × (after ≡ before)) ⊎ ((b : Bool) × Asks x × (new ≡ side x b old) × (before ≡ b ∷ after))
LedBy x old new pace.NeedBit before after = Asks x × (new ≡ old) × (before ≡ []) × (after ≡ before)
LedBy x old new (pace.Ended o) before after = (x ≡ ends o) × (new ≡ old) × (after ≡ before)
