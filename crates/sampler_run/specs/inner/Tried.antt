-- Attempts of a draw below a bound, as plain values.
use Rattle.std.specs.Prelude.{◌≡◌, ℕ, ◌%◌, ◌/◌, ◌-◌, ◌+◌, ◌<◌, ◌≤◌, ◌*◌, ◌^◌, List, slice_get, Some}
use Rattle.gcl_core.specs.declared.answers.Limits.{Limits}
use Rattle.zar_io.specs.FileBits.{low_bits}
use Rattle.gcl_core.specs.meaning.Syntax.{Expression}
use Rattle.sampler_code.specs.Instruction.{Instruction, Range}
use Rattle.sampler_code.specs.Machine.{Machine, below}
use Rattle.sampler_code.specs.inner.Bounded.{rest_of, Answered}
use Rattle.sampler_run.specs.declared.trials.Trial.{Trial}
use Rattle.sampler_run.specs.declared.trials.Came.{Came}
use Rattle.sampler_run.specs.declared.trials.Came.TheVariants.{Number, NeedBit, Rejected}
use Rattle.sampler_run.specs.inner.Going.{to_go}
use Rattle.sampler_run.specs.inner.Taken.{Takes}

-- a machine at an attempt below b
abbrev pub at_trial : Machine → ℕ → Trial → Machine
at_trial m b t = record m { tries = t.tries; used = t.used; drawing = below b t.need t.low }

-- the number that an attempt spells once it has read on in a word to where it needs `rest` bits more
abbrev pub low_at : ℕ → Trial → ℕ → ℕ
low_at word t rest = t.low * 2 ^ (t.need - rest) + word / 2 ^ (t.left - (t.need - rest)) % 2 ^ (t.need - rest)

-- n is what an attempt spells with the next bits of a word, and with 0 for each that is missing
pub record SpellsOut (word : ℕ) (t : Trial) (n missing : ℕ) : Type 0 where
  pub few : missing ≤ t.need
  pub enough : t.need - missing ≤ t.left
  pub used_up : 0 < missing → t.left ≡ t.need - missing
  pub is : n ≡ low_at word t missing * 2 ^ missing

-- it took some of the lowest bits of a word, and no more is to go than before
pub record Went (code : List Instruction) (l : Limits) (old new : Machine) (word before after : ℕ) : Type 0 where
  pub takes : Takes (rest_of code l old) (rest_of code l new) (low_bits before word) (low_bits after word)
  pub less : to_go code l after new ≤ to_go code l before old

-- a draw below b is at an attempt, or goes on to its first one
pub record HasBegun (code : List Instruction) (l : Limits) (m : Machine) (word left b : ℕ) (t : Trial) : Type 0 where
  pub went : Went code l m (at_trial m b t) word left t.left
  pub bound : (b < 2 ^ 63) × (0 < b)
  pub need : t.need < 64
  pub within : t.left ≤ left

-- any draw below b goes from the one attempt to the other on the bits of a word
abbrev pub HasTried : ℕ → ℕ → Trial → Trial → Type 0
HasTried b word t u =
    (code : List Instruction) (l : Limits) (x : ℕ) (e : Expression) (m : Machine) → slice_get code m.index ≡ Some (Range x e) →
    Answered code l (at_trial m b t) → Went code l (at_trial m b t) (at_trial m b u) word t.left u.left

-- what an attempt came to: a number below b; where a bit is needed and none is left; or where it is not below b, whatever bits
-- follow
abbrev pub CameTo : ℕ → Trial → Came → Type 0
CameTo b t (Number v) = (t.need ≡ 0) × (t.low ≡ v) × (v < b)
CameTo b t NeedBit = (0 < t.need) × (t.low * 2 ^ t.need < b) × (t.left ≡ 0)
CameTo b t Rejected = b ≤ t.low * 2 ^ t.need
