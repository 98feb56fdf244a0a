-- How far a run goes without a further bit, and how far on a number of bits, within the bound on its steps: numbers that fall.
use Rattle.std.specs.Prelude.{ℕ, zero, suc, ◌+◌, ◌*◌, List}
use Rattle.gcl_core.specs.declared.answers.Limits.{Limits}
use Rattle.sampler_code.specs.Instruction.{Instruction}
use Rattle.sampler_code.specs.Machine.{Machine, Next, goes, asks, ends, stuck, step}
use Rattle.sampler_code.specs.inner.Bounded.{most_steps}

-- the steps that need no bit, of at most k
abbrev pub silent_after : Next → (Machine → ℕ) → ℕ
silent_after (goes m) more = suc (more m)
silent_after (asks m o) more = 0
silent_after (ends x) more = 0
silent_after stuck more = 0

unfoldable pub silent : List Instruction → Limits → ℕ → Machine → ℕ
silent code l zero m = 0
silent code l (suc k) m = silent_after (step code l m) (silent code l k)

-- the measure of a run
unfoldable pub steps_left : List Instruction → Limits → Machine → ℕ
steps_left code l m = silent code l (most_steps code l) m

-- what is left of a run on `left` bits
abbrev pub to_go : List Instruction → Limits → ℕ → Machine → ℕ
to_go code l left m = left * suc (most_steps code l) + steps_left code l m
