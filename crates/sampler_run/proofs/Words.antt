-- Runs on the bits of a word.
use Rattle.std.proofs.Common.{◌≡◌, ℕ, zero, suc, ◌*◌, ◌^◌, ◌/◌, ◌%◌, ◌-◌, ◌≢◌, ◌<◌, ◌≤◌, ◌==◌, Bool, true, false, List, [], ◌∷◌, ◌++◌, length, Option, refl, sym, ap, ◌∙◌, subst, arith, length-append, inl, inr}
use Rattle.std.proofs.lemmas.Nat.{mul-le}
use Rattle.gcl_core.specs.declared.answers.Limits.{Limits}
use Rattle.gcl_core.specs.declared.answers.Outcome.{Outcome}
use Rattle.gcl_core.specs.meaning.Draw.{bit}
use Rattle.zar_io.specs.FileBits.{low_bits}
use Rattle.sampler_code.specs.Instruction.{Instruction}
use Rattle.sampler_code.specs.Machine.{Machine, Next, goes, asks, ends, stuck, step}
use Rattle.sampler_code.specs.Running.{Reached}
use Rattle.sampler_code.specs.inner.Bounded.{most_steps, rest_of, Answered}
use Rattle.sampler_run.specs.declared.machine.Progress.TheVariants as progress
use Rattle.sampler_run.specs.declared.machine.Registers.{Registers}
use Rattle.sampler_run.specs.declared.machine.Pace.{Pace}
use Rattle.sampler_run.specs.declared.machine.Pace.TheVariants as pace
use Rattle.sampler_run.specs.Views.{machine_of}
use Rattle.sampler_run.specs.inner.Ran.{MovedTo}
use Rattle.sampler_run.specs.inner.Resting.{Asks, Led, Rests}
use Rattle.sampler_run.specs.inner.Taken.{NeedsMore, Takes, LedBy}
use Rattle.sampler_run.specs.inner.Going.{silent_after, silent, steps_left, to_go}
use Rattle.sampler_run.proofs.Settle.{falls, step_same, bit_same}
use Rattle.sampler_run.proofs.Standing.{at_rest}
use Rattle.sampler_run.specs.declared.machine.Progress.{Progress}
use Rattle.sampler_run.specs.inner.Coming.{deepest}
use Rattle.sampler_run.proofs.Feeding.{fewer_taken}
use Rattle.sampler_run.proofs.Takes.{takes_none, takes_more, takes_on}

pub low_bits_length : (k n : ℕ) → length (low_bits k n) ≡ k
unfolding low_bits
low_bits_length zero n = refl
low_bits_length (suc k) n = ap suc (low_bits_length k n)

-- the first bit, and the others
pub low_bits_first : (k n : ℕ) → k ≢ 0 → low_bits k n ≡ (n / 2 ^ (k - 1) % 2 == 1) ∷ low_bits (k - 1) n
unfolding low_bits
low_bits_first zero n h = absurd (h refl)
low_bits_first (suc k) n h = let e : suc k - 1 ≡ k = omega arith in rw e refl

pub low_bits_none : (k n : ℕ) → k ≡ 0 → low_bits k n ≡ []
unfolding low_bits
low_bits_none k n e = ap (λ k. low_bits k n) e

-- a machine that asks for a bit needs one
pub needs_rest : (code : List Instruction) (l : Limits) (m : Machine) → Answered code l m → Asks (step code l m) → NeedsMore (rest_of code l m [])
needs_rest code l m h need =
    let a = h [] in
    subst NeedsMore (sym a.1) (at_rest code l (most_steps code l) progress.NeedBit m a.0 need a.1).stands

most_silent : (x : Next) (more : Machine → ℕ) (k : ℕ) → ((m : Machine) → more m ≤ k) → silent_after x more ≤ suc k
most_silent (goes m) more k h = let e = h m in omega arith
most_silent (asks m o) more k h = omega arith
most_silent (ends x) more k h = omega arith
most_silent stuck more k h = omega arith

module _ (code : List Instruction) (l : Limits) where
  silent_most : (k : ℕ) (m : Machine) → silent code l k m ≤ k
  unfolding silent
  silent_most zero m = omega arith
  silent_most (suc k) m = most_silent (step code l m) (silent code l k) k (silent_most k)

  -- on fewer bits less is to go, wherever the machine stands
  pub fewer_to_go : (m n : Machine) (j k : ℕ) → k < j → to_go code l k n < to_go code l j m
  unfolding steps_left
  fewer_to_go m n j k lt =
      let M = most_steps code l in
      let s = silent_most M n in
      let fewer = mul-le (suc k) (suc M) j (suc M) (omega (arith, lt)) (omega arith) in
      omega (arith, s, fewer)

  -- one instruction on
  on_takes : (run : List Bool → Option Reached) (m n : Machine) (old before after : List Bool) → Answered code l m →
      LedBy (step code l m) m n pace.On before after → Takes run (rest_of code l m) old before → Takes run (rest_of code l n) old after
  on_takes run m n old before after h (inl e) t =
      subst (λ b. Takes run (rest_of code l n) old b) (sym e.1) (takes_on run (rest_of code l m) (rest_of code l n) old before t (step_same code l m n h e.0))
  on_takes run m n old before after h (inr e) t =
      takes_more run (rest_of code l m) (rest_of code l n) e.0 old before after t e.3 (needs_rest code l m h e.1) (bit_same code l m n e.0 h e.1 e.2)

  on_less : (m n : Machine) (w j k : ℕ) → Answered code l m → LedBy (step code l m) m n pace.On (low_bits j w) (low_bits k w) →
      to_go code l k n < to_go code l j m
  unfolding steps_left
  on_less m n w j k h (inl e) =
      let same : k ≡ j = sym (low_bits_length k w) ∙ ap length e.1 ∙ low_bits_length j w in
      let f = falls code l m n h e.0 in
      let g : k * suc (most_steps code l) ≡ j * suc (most_steps code l) = ap (λ k. k * suc (most_steps code l)) same in
      omega (arith, f, g)
  on_less m n w j k h (inr e) =
      let one : j ≡ suc k = sym (low_bits_length j w) ∙ ap length e.3 ∙ ap suc (low_bits_length k w) in
      fewer_to_go m n j k (omega (arith, one))

  stop_takes : (run : List Bool → Option Reached) (m n : Machine) (old before after : List Bool) → n ≡ m → after ≡ before →
      Takes run (rest_of code l m) old before → Takes run (rest_of code l n) old after
  stop_takes run m n old before after e f t =
      subst (λ n. Takes run (rest_of code l n) old after) (sym e) (subst (λ b. Takes run (rest_of code l m) old b) (sym f) t)

pub fewer_left : (run rest : List Bool → Option Reached) (j k w : ℕ) → Takes run rest (low_bits j w) (low_bits k w) → k ≤ j
fewer_left run rest j k w t =
    let e = ap length t.split ∙ length-append t.taken (low_bits k w) in
    omega (arith, e, low_bits_length j w, low_bits_length k w)

module _ (code : List Instruction) (l : Limits) where
  -- it rests where it stopped
  rests_need : (m n : Machine) → n ≡ m → Asks (step code l m) → Rests (step code l n) progress.NeedBit
  rests_need m n e h = subst (λ n. Asks (step code l n)) (sym e) h

  rests_end : (m n : Machine) (o : Outcome) → n ≡ m → step code l m ≡ ends o → Rests (step code l n) (progress.Ended o)
  rests_end m n o e h = ap (λ n. step code l n) e ∙ h

no_bits : (j k w : ℕ) → low_bits j w ≡ [] → low_bits k w ≡ low_bits j w → k ≡ 0
no_bits j k w e f = sym (low_bits_length k w) ∙ ap length (f ∙ e)

pub taken_answered : (code : List Instruction) (l : Limits) (m n : Machine) (old new : List Bool) → Answered code l m →
    Takes (rest_of code l m) (rest_of code l n) old new → Answered code l n
taken_answered code l m n old new h t v = ((h (t.taken ++ v)).0, t.same v ∙ (h (t.taken ++ v)).1)

-- ---- what one instruction came to

pub silently : (x : Next) (old new : Machine) (p : Pace) (bits : List Bool) → Led x old new p → LedBy x old new p bits bits
silently x old new pace.On bits e = inl (e, refl)
silently x old new pace.NeedBit bits e = absurd e
silently x old new (pace.Ended o) bits e = (e.0, e.1, refl)

module _ (code : List Instruction) (l : Limits) (old new : Registers) (w j k : ℕ) where
  pub moved_takes : (p : Pace) → Answered code l (machine_of old) → LedBy (step code l (machine_of old)) (machine_of old) (machine_of new) p (low_bits j w) (low_bits k w) →
      Takes (rest_of code l (machine_of old)) (rest_of code l (machine_of new)) (low_bits j w) (low_bits k w)
  moved_takes pace.On h e =
      on_takes code l (rest_of code l (machine_of old)) (machine_of old) (machine_of new) (low_bits j w) (low_bits j w) (low_bits k w) h e (takes_none _ _ _ (λ v. refl))
  moved_takes pace.NeedBit h e =
      stop_takes code l (rest_of code l (machine_of old)) (machine_of old) (machine_of new) (low_bits j w) (low_bits j w) (low_bits k w) e.1 e.3 (takes_none _ _ _ (λ v. refl))
  moved_takes (pace.Ended o) h e =
      stop_takes code l (rest_of code l (machine_of old)) (machine_of old) (machine_of new) (low_bits j w) (low_bits j w) (low_bits k w) e.1 e.2 (takes_none _ _ _ (λ v. refl))

  pub moved_to : (p : Pace) → Answered code l (machine_of old) → LedBy (step code l (machine_of old)) (machine_of old) (machine_of new) p (low_bits j w) (low_bits k w) →
      MovedTo code l old new j k p
  moved_to pace.On h e = on_less code l (machine_of old) (machine_of new) w j k h e
  moved_to pace.NeedBit h e = (rests_need code l (machine_of old) (machine_of new) e.1 e.0, no_bits j k w e.2 e.3)
  moved_to (pace.Ended o) h e = rests_end code l (machine_of old) (machine_of new) o e.1 e.0

-- the lowest bit of a number that is a bit
pub bit_of_word : (b : Bool) → low_bits 1 (bit b) ≡ b ∷ []
unfolding low_bits
bit_of_word true = refl
bit_of_word false = refl

-- ---- of no bit none is taken

pub none_of_none : (u r : List Bool) → [] ≡ u ++ r → u ≡ []
none_of_none [] r e = refl
none_of_none (c ∷ u) r e = absurd (cc)

-- ---- at least one bit is taken of some bits, where the run needs one

module _ (code : List Instruction) (l : Limits) (m n : Machine) (p : Progress) (left : ℕ) where
  none_taken : Answered code l m → Asks (step code l m) → Rests (step code l n) p → (p ≡ progress.NeedBit → left ≡ 0) →
      ((v : List Bool) → rest_of code l n v ≡ rest_of code l m v) → left ≡ 0
  none_taken h need rests used_up same =
      let a = h [] in
      let there = at_rest code l (most_steps code l) progress.NeedBit m a.0 need a.1 in
      let told = at_rest code l (most_steps code l) p n a.0 rests (same [] ∙ a.1) in
      used_up (told.stands ∙ sym there.stands)

  pub some_taken : (count word : ℕ) → 0 < count → Answered code l m → Asks (step code l m) → Rests (step code l n) p → (p ≡ progress.NeedBit → left ≡ 0) →
      (t : Takes (rest_of code l m) (rest_of code l n) (low_bits count word) (low_bits left word)) → (u : List Bool) → t.taken ≡ u → 0 < length u
  some_taken count word some h need rests used_up t [] e =
      let none = none_taken h need rests used_up (λ v. t.same v ∙ ap (λ u. rest_of code l m (u ++ v)) e) in
      let split = ap length t.split ∙ ap (λ u. length (u ++ low_bits left word)) e in
      absurd (omega (arith, split, none, low_bits_length count word, low_bits_length left word))
  some_taken count word some h need rests used_up t (b ∷ u) e = omega arith

  pub fewer_word : (count word : ℕ) → 0 < count → Answered code l m → Asks (step code l m) → Rests (step code l n) p → (p ≡ progress.NeedBit → left ≡ 0) →
      Takes (rest_of code l m) (rest_of code l n) (low_bits count word) (low_bits left word) →
      deepest (most_steps code l) (rest_of code l n) < deepest (most_steps code l) (rest_of code l m)
  fewer_word count word some h need rests used_up t =
      fewer_taken code l m n t.taken (some_taken count word some h need rests used_up t t.taken refl) t.needed t.same

-- and of one bit that one
pub one_of_one : (u r : List Bool) (b : Bool) → b ∷ [] ≡ u ++ r → 0 < length u → u ≡ b ∷ []
one_of_one [] r b e some = absurd (omega arith)
one_of_one (c ∷ []) r b e some = cc
one_of_one (c ∷ (d ∷ u)) r b e some = absurd (cc)
