-- Runs by a bound on the steps, which no run of the code of a tree passes. Within it whatever is reached can be computed.
use Rattle.std.specs.Prelude.{◌≡◌, ℕ, ◌+◌, ◌*◌, ◌^◌, Bool, List, length, Option, Some}
use Rattle.gcl_core.specs.declared.answers.Limits.{Limits}
use Rattle.sampler_code.specs.Instruction.{Instruction}
use Rattle.sampler_code.specs.Machine.{Machine}
use Rattle.sampler_code.specs.Running.{Reached, within_steps}

-- an attempt below a bound reads at most 63 bits, and begins and ends with a step of its own
abbrev pub most_steps : List Instruction → Limits → ℕ
most_steps code l = (66 * (l.turns + l.attempts + l.rounds + 2)) ^ length code

-- what is reached within the bound on the bits w from a state on
abbrev pub rest_of : List Instruction → Limits → Machine → List Bool → Option Reached
rest_of code l m w = within_steps code l (most_steps code l) m w

-- whatever bits come, something is reached within the bound
abbrev pub Answered : List Instruction → Limits → Machine → Type 0
Answered code l m = (w : List Bool) → (a : Reached) × (rest_of code l m w ≡ Some a)
