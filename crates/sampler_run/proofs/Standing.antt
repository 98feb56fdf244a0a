-- What a state tells of the rest of its run, and where two states stand.
use Rattle.std.proofs.Common.{◌≡◌, ℕ, zero, suc, ◌+◌, ◌<◌, ◌≤◌, ℤ, pos, Bool, List, [], ◌∷◌, ◌++◌, length, take, get_or, Some, refl, sym, ap, ◌∙◌, subst, arith, append_assoc}
use Rattle.std.proofs.lemmas.List.{append-nil, length-replicate}
use Rattle.std.proofs.Math.Seq.{take-suc, take-length}
use Rattle.std.specs.Prelude.{◌↔◌, replicate}
use Rattle.gcl_core.specs.declared.answers.Limits.{Limits}
use Rattle.gcl_core.specs.declared.answers.Outcome.{Outcome}
use Rattle.gcl_core.specs.declared.answers.Answer.TheVariants.{Ended, MoreBits}
use Rattle.sampler_code.specs.Instruction.{Instruction}
use Rattle.sampler_code.specs.Machine.{Machine, idle, Next, goes, asks, ends, stuck, step}
use Rattle.gcl_core.specs.meaning.LimitRange.{InRange}
use Rattle.gcl_core.specs.meaning.Outcomes.{zeros}
use Rattle.sampler_code.specs.Assembled.{Assembled}
use Rattle.sampler_code.specs.Follows.{IsCode}
use Rattle.sampler_code.specs.Running.{Reached, reached_at, follow, within_steps, Reaches, start}
use Rattle.sampler_code.specs.inner.Bounded.{most_steps, rest_of, Answered}
use Rattle.sampler_code.proofs.SoundCode.{answered_of}
use Rattle.sampler_code.proofs.Steps.{one_reached}
use Rattle.sampler_run.specs.declared.machine.Progress.{Progress}
use Rattle.sampler_run.specs.declared.machine.Progress.TheVariants as progress
use Rattle.sampler_run.specs.Held.{Held, Ahead, StandsAfter, set_back}
use Rattle.sampler_run.specs.Telling.{progress_in, used_in, Tells, UsedIs, PlaceIs}
use Rattle.sampler_run.specs.inner.Resting.{Asks, Rests}
use Rattle.sampler_run.specs.inner.Kept.{KeptState}

-- ---- a machine at rest

-- what is reached tells where the run stands, how many bits were read, and the index
pub record ToldBy (a : Reached) (p : Progress) (used place : ℕ) : Type 0 where
  pub stands : p ≡ progress_in a.answer
  pub bits : used ≡ used_in a.answer
  pub index : place ≡ a.place

told_as : (a b : Reached) (p : Progress) (u i : ℕ) → ToldBy a p u i → Some a ≡ Some b → ToldBy b p u i
told_as a b p u i h e = let same : a ≡ b = cc in subst (λ a. ToldBy a p u i) same h

rest_told : (x : Next) (p : Progress) (m : Machine) (f : Machine → List Bool → _) (a : Reached) → Rests x p → follow x m f [] ≡ Some a →
    ToldBy a p m.used m.index
rest_told (goes n) progress.NeedBit m f a h e = absurd h
rest_told (goes n) (progress.Ended o) m f a h e = absurd (cc)
rest_told (asks n o) progress.NeedBit m f a h e =
    told_as (reached_at m (MoreBits m.used)) a progress.NeedBit m.used m.index (record { stands = refl; bits = refl; index = refl }) e
rest_told (asks n o) (progress.Ended x) m f a h e = absurd (cc)
rest_told (ends x) progress.NeedBit m f a h e = absurd h
rest_told (ends x) (progress.Ended o) m f a h e =
    let same : o ≡ x = cc in
    told_as (reached_at m (Ended x m.used)) a (progress.Ended o) m.used m.index (record { stands = ap progress.Ended same; bits = refl; index = refl }) e
rest_told stuck progress.NeedBit m f a h e = absurd h
rest_told stuck (progress.Ended o) m f a h e = absurd (cc)

module _ (code : List Instruction) (l : Limits) where
  pub at_rest : (k : ℕ) (p : Progress) (m : Machine) (a : Reached) → Rests (step code l m) p → within_steps code l k m [] ≡ Some a →
      ToldBy a p m.used m.index
  unfolding within_steps
  at_rest zero p m a h e = absurd (cc)
  at_rest (suc k) p m a h e = rest_told (step code l m) p m (within_steps code l k) a h e

  -- a machine that has ended reaches its end on all bits
  ended_within : (k : ℕ) (m : Machine) (x : Outcome) (v w : List Bool) (a : Reached) → step code l m ≡ ends x →
      within_steps code l k m v ≡ Some a → within_steps code l k m w ≡ Some a
  unfolding within_steps
  ended_within zero m x v w a e f = absurd (cc)
  ended_within (suc k) m x v w a e f =
      ap (λ y. follow y m (within_steps code l k) w) e ∙ sym (ap (λ y. follow y m (within_steps code l k) v) e) ∙ f

  -- ---- what is reached is found within the bound

  pub reached_within : (m : Machine) (v : List Bool) (a : Reached) → Answered code l m → Reaches code l m v a → rest_of code l m v ≡ Some a
  reached_within m v a h r = let b = h v in b.1 ∙ ap Some (one_reached code l m v b.0 a (most_steps code l, b.1) r)

  -- one machine stands where another does after the bits u
  pub stands : (m n : Machine) (u : List Bool) → Answered code l m → Answered code l n →
      ((v : List Bool) → rest_of code l n v ≡ rest_of code l m (u ++ v)) → (v : List Bool) (a : Reached) →
      Reaches code l n v a ↔ Reaches code l m (u ++ v) a
  stands m n u h i e v a = (
    λ r. (most_steps code l, sym (e v) ∙ reached_within n v a i r),
    λ r. (most_steps code l, e v ∙ reached_within m (u ++ v) a h r),
  )

-- what stands after some bits, and then after others, stands after both
pub stands_then : (u w : List Bool) (s t r : Held) → StandsAfter u s t → StandsAfter w t r → StandsAfter (u ++ w) s r
stands_then u w s t r h i v a = (
  λ q. subst (λ x. Ahead s x a) (sym (append_assoc u w v)) ((h (w ++ v) a).0 ((i v a).0 q)),
  λ q. (i v a).1 ((h (w ++ v) a).1 (subst (λ x. Ahead s x a) (append_assoc u w v) q)),
)

-- what the old state reaches on the bits between is what the new one tells
pub reached_here : (u : List Bool) (old new : Held) (a : Reached) → StandsAfter u old new → Ahead old u a → Ahead new [] a
reached_here u old new a h r = (h [] a).1 (subst (λ w. Ahead old w a) (sym (append-nil u)) r)

-- as many bits as there are
pub take_whole : (u : List Bool) (k : ℕ) → k ≤ length u → length u ≤ k → take k u ≡ u
take_whole u k le ge = let same : k ≡ length u = omega arith in ap (λ k. take k u) same ∙ take-length u

-- one bit more of a list
pub stands_next : (bits : List Bool) (k : ℕ) (d : Bool) (s t r : Held) → k < length bits → StandsAfter (take k bits) s t →
    StandsAfter (get_or bits k d ∷ []) t r → StandsAfter (take (k + 1) bits) s r
stands_next bits k d s t r lt h i =
    let more : k + 1 ≡ suc k = omega arith in
    subst (λ u. StandsAfter u s r) (sym (ap (λ n. take n bits) more ∙ take-suc bits k d lt)) (stands_then (take k bits) (get_or bits k d ∷ []) s t r h i)

-- ---- a run before its first step

module _ (vars loops : ℕ) (l : Limits) (vs : List ℤ) (ts : List ℕ) where
  pub first_machine : vs ≡ replicate vars (pos 0) → ts ≡ replicate loops 0 →
      record { index = 0; vars = vs; turns = ts; tries = 0; rounds = l.rounds; used = 0; drawing = idle } ≡ start vars loops l
  first_machine e f =
      ap (λ (vs : List ℤ). let m : Machine = record { index = 0; vars = vs; turns = ts; tries = 0; rounds = l.rounds; used = 0; drawing = idle } in m) e
      ∙ ap (λ (ts : List ℕ). let m : Machine = record { index = 0; vars = zeros vars; turns = ts; tries = 0; rounds = l.rounds; used = 0; drawing = idle } in m) f

pub first_answered : (c : Assembled) → IsCode c → (l : Limits) → InRange l → (vs : List ℤ) (ts : List ℕ) →
    vs ≡ replicate c.vars (pos 0) → ts ≡ replicate c.loops 0 →
    Answered c.instrs l (record { index = 0; vars = vs; turns = ts; tries = 0; rounds = l.rounds; used = 0; drawing = idle })
first_answered c is l r vs ts e f =
    subst (λ m. Answered c.instrs l m) (sym (first_machine c.vars c.loops l vs ts e f)) (answered_of c is l r)

start_same : (l : Limits) (vars count turns loops : ℕ) → vars ≡ count → turns ≡ loops → start vars turns l ≡ start count loops l
start_same l vars count turns loops e f = ap (λ n. start n turns l) e ∙ ap (λ n. start count n l) f

-- ---- a state that is kept

module _ (s : Held) (L V : ℕ) (p : Progress) (k : KeptState s L V p) where
  told : (a : Reached) → Ahead s [] a → ToldBy a p s.machine.used s.machine.index
  told a r = at_rest s.code s.limits r.0 p s.machine a k.rests r.1

  pub kept_tells : Tells s p
  kept_tells a r = (told a r).stands

  pub kept_used : UsedIs s s.machine.used
  kept_used a r = (told a r).bits

  pub kept_place : PlaceIs s s.machine.index
  kept_place a r = (told a r).index

  -- set back to its start, it reaches something too
  pub kept_back : Answered s.code s.limits (start (length s.machine.vars) (length s.machine.turns) s.limits)
  kept_back = subst (λ m. Answered s.code s.limits m) (sym (start_same s.limits _ _ _ _ k.vars k.turns)) k.from_start

  pub kept_begun : (m : Machine) → m ≡ start (length s.machine.vars) (length s.machine.turns) s.limits → Answered s.code s.limits m
  kept_begun m e = subst (λ m. Answered s.code s.limits m) (sym e) kept_back

  pub kept_some : (v : List Bool) → (a : Reached) × Ahead s v a
  kept_some v = let b = k.answered v in (b.0, (most_steps s.code s.limits, b.1))

  pub kept_only : (v : List Bool) (a b : Reached) → Ahead s v a → Ahead s v b → a ≡ b
  kept_only v a b = one_reached s.code s.limits s.machine v a b

  pub kept_one : (q r : Progress) → Tells s q → Tells s r → q ≡ r
  kept_one q r h i = let a = kept_some [] in h a.0 a.1 ∙ sym (i a.0 a.1)

  kept_rests : (q : Progress) → Tells s q → Rests (step s.code s.limits s.machine) q
  kept_rests q h = subst (λ q. Rests (step s.code s.limits s.machine) q) (kept_one p q kept_tells h) k.rests

  pub kept_asks : Tells s progress.NeedBit → Asks (step s.code s.limits s.machine)
  kept_asks h = kept_rests progress.NeedBit h

  pub kept_ended : (x : Outcome) → Tells s (progress.Ended x) → (v w : List Bool) (a : Reached) → Ahead s v a → Ahead s w a
  kept_ended x h v w a r = (r.0, ended_within s.code s.limits r.0 s.machine x v w a (kept_rests (progress.Ended x) h) r.1)

  -- fed a bit, an ended run stands as it is
  pub kept_stays : (x : Outcome) → Tells s (progress.Ended x) → (u : List Bool) → StandsAfter u s s
  kept_stays x h u v a = (kept_ended x h v (u ++ v) a, kept_ended x h (u ++ v) v a)

-- ---- two states of one run before its first step

module _ (s t : Held) (e : set_back s ≡ set_back t) where
  same_vars : length s.machine.vars ≡ length t.machine.vars
  same_vars = sym (length-replicate (length s.machine.vars) (pos 0)) ∙ ap (λ (h : Held). length h.machine.vars) e ∙ length-replicate (length t.machine.vars) (pos 0)

  pub same_turns : length s.machine.turns ≡ length t.machine.turns
  same_turns = sym (length-replicate (length s.machine.turns) 0) ∙ ap (λ (h : Held). length h.machine.turns) e ∙ length-replicate (length t.machine.turns) 0

  -- with the machine of the other, the one is the other
  pub put_there : (m : Machine) → m ≡ t.machine → record { code = s.code; limits = s.limits; machine = m } ≡ t
  put_there m f =
      ap (λ (m : Machine). let h : Held = record { code = s.code; limits = s.limits; machine = m } in h) f
      ∙ ap (λ (b : Held). let h : Held = record { code = b.code; limits = b.limits; machine = t.machine } in h) e

  -- and it keeps what the other keeps, with its own counts
  pub kept_there : (L V K W : ℕ) (p q : Progress) → KeptState s L V p → KeptState t K W q → (m : Machine) → m ≡ t.machine →
      KeptState (record { code = s.code; limits = s.limits; machine = m }) L V q
  kept_there L V K W p q k o m f =
      subst (λ h. KeptState h L V q) (sym (put_there m f))
      (subst (λ n. KeptState t n V q) (sym o.turns ∙ sym same_turns ∙ k.turns) (subst (λ n. KeptState t K n q) (sym o.vars ∙ sym same_vars ∙ k.vars) o))
