-- Runs through the bits of a word.
use Rattle.std.specs.Prelude.{◌≡◌, ℕ, ◌<◌, ◌≤◌, List, length, slice_get, Some}
use Rattle.gcl_core.specs.declared.answers.Limits.{Limits}
use Rattle.zar_io.specs.FileBits.{low_bits}
use Rattle.gcl_core.specs.meaning.Syntax.{Expression}
use Rattle.sampler_code.specs.Instruction.{Instruction, Range}
use Rattle.sampler_code.specs.Depths.{greatest_depth}
use Rattle.sampler_code.specs.Machine.{step, ends}
use Rattle.sampler_code.specs.inner.Bounded.{rest_of, Answered}
use Rattle.sampler_code.specs.Sound.{Sound}
use Rattle.sampler_run.specs.declared.machine.Progress.{Progress}
use Rattle.sampler_run.specs.declared.machine.Progress.TheVariants as progress
use Rattle.sampler_run.specs.declared.machine.Registers.{Registers}
use Rattle.sampler_run.specs.declared.machine.Pace.{Pace}
use Rattle.sampler_run.specs.declared.machine.Pace.TheVariants as pace
use Rattle.sampler_run.specs.inner.Going.{to_go}
use Rattle.sampler_run.specs.inner.Resting.{Asks, Rests}
use Rattle.sampler_run.specs.inner.Shape.{SameShape}
use Rattle.sampler_run.specs.declared.trials.Trial.{Trial}
use Rattle.sampler_run.specs.inner.Taken.{Takes}
use Rattle.sampler_run.specs.inner.Tried.{HasBegun}
use Rattle.sampler_run.specs.Views.{machine_of}

-- what a run through `count` bits stands on
pub record CanRun (code : List Instruction) (l : Limits) (m : Registers) (count : ℕ) : Type 0 where
  pub room : greatest_depth code ≤ m.stack
  pub sound : Sound code (length m.turns.items) (length m.vars.items)
  pub answered : Answered code l (machine_of m)
  pub bits : count ≤ 64

-- where it went: on, with less to go; or to rest
abbrev pub MovedTo : List Instruction → Limits → Registers → Registers → ℕ → ℕ → Pace → Type 0
MovedTo code l old new before after pace.On = to_go code l after (machine_of new) < to_go code l before (machine_of old)
MovedTo code l old new before after pace.NeedBit = Asks (step code l (machine_of new)) × (after ≡ 0)
MovedTo code l old new before after (pace.Ended o) = step code l (machine_of new) ≡ ends o

-- some instructions on, it took those of the lowest bits of a word that it needs
pub record HasMoved (code : List Instruction) (l : Limits) (old new : Registers) (word before after : ℕ) (p : Pace) : Type 0 where
  pub takes : Takes (rest_of code l (machine_of old)) (rest_of code l (machine_of new)) (low_bits before word)
      (low_bits after word)
  pub moved : MovedTo code l old new before after p
  pub shape : SameShape old new

-- any code that has a draw of x at the index, which stands at this attempt below b, moves so from there on
abbrev pub DrawMoves : ℕ → Trial → ℕ → Registers → Registers → ℕ → ℕ → ℕ → Pace → Type 0
DrawMoves b t x old new word before after p = (code : List Instruction) (l : Limits) (e : Expression) →
    slice_get code old.index ≡ Some (Range x e) → CanRun code l old before → HasBegun code l (machine_of old) word before b t →
    HasMoved code l old new word before after p

-- it took those of the lowest bits of a word that it needs, and stands where they are used up and it needs one more, or has ended
pub record HasRun (code : List Instruction) (l : Limits) (old new : Registers) (word before after : ℕ)
    (p : Progress) : Type 0 where
  pub takes : Takes (rest_of code l (machine_of old)) (rest_of code l (machine_of new)) (low_bits before word)
      (low_bits after word)
  pub rests : Rests (step code l (machine_of new)) p
  pub left : after ≤ before
  pub used_up : p ≡ progress.NeedBit → after ≡ 0
  pub shape : SameShape old new
