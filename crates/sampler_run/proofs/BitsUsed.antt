-- A run counts the bits that it takes, and those that it took bring it to where it stands.
use Rattle.std.proofs.Common.{◌≡◌, ℕ, zero, suc, ◌+◌, ◌^◌, ◌<◌, ℤ, pos, negsuc, Bool, true, false, List, [], ◌∷◌, length, take, Option, Some, None, Ok, Err, refl, sym, ap, ◌∙◌, subst, arith}
use Rattle.std.proofs.lemmas.List.{append-nil}
use Rattle.std.specs.Prelude.{if◌then◌else◌, slice_get, slice_index, nat_lt}
use Rattle.gcl_core.specs.declared.answers.Answer.TheVariants.{Ended, MoreBits}
use Rattle.gcl_core.specs.declared.answers.Limit.{Limit}
use Rattle.gcl_core.specs.declared.answers.Limits.{Limits}
use Rattle.gcl_core.specs.declared.answers.Outcome.{Outcome}
use Rattle.gcl_core.specs.meaning.Blocks.{by_bound}
use Rattle.gcl_core.specs.meaning.Runs.{capped}
use Rattle.gcl_core.specs.meaning.Syntax.{Expression}
use Rattle.gcl_core.specs.meaning.Value.{Value, value_of, is_zero}
use Rattle.sampler_code.specs.Instruction.{Instruction, Set, Range, Unless, Goto, Arm, Loop, Tries, Flip, Again, Fail, Return}
use Rattle.sampler_code.specs.Machine.{Machine, Drawing, idle, below, Next, goes, asks, ends, stuck, on_value_next, turn, spend, retry, draws_on, ranges, act, step}
use Rattle.sampler_code.specs.Running.{Reached, reached_at, follow, within_steps, Reaches}
use Rattle.sampler_run.specs.Held.{Held, Ahead, StandsAfter}
use Rattle.sampler_run.specs.Sampled.{NeedsBit, NoneIsLeft, TookTo, WentOn}
use Rattle.sampler_run.specs.Telling.{used_in, UsedIs}
use Rattle.sampler_run.proofs.Attempts.{used_after, used_capped}
use Rattle.sampler_run.proofs.Taking.{needs_as}

-- ---- one step

-- a bit counts one more, and nothing else counts
abbrev UsedBy : ℕ → Next → Type 0
UsedBy u (goes n) = n.used ≡ u
UsedBy u (asks n o) = (n.used ≡ capped (u + 1)) × (o.used ≡ capped (u + 1))
UsedBy u (ends x) = Unit {0}
UsedBy u stuck = Unit {0}

on_value : (u : ℕ) (v : Value) (go : ℤ → Next) → ((z : ℤ) → UsedBy u (go z)) → UsedBy u (on_value_next v go)
on_value u (Ok z) go h = h z
on_value u (Err f) go h = tt

on_test : (u : ℕ) (b : Bool) (a c : Next) → UsedBy u a → UsedBy u c → UsedBy u (if b then a else c)
on_test u true a c h k = h
on_test u false a c h k = k

on_spend : (u n : ℕ) (x : Limit) (go : ℕ → Next) → ((k : ℕ) → UsedBy u (go k)) → UsedBy u (spend n x go)
on_spend u zero x go h = tt
on_spend u (suc zero) x go h = tt
on_spend u (suc (suc k)) x go h = h (suc k)

on_turn : (m : Machine) (c t n : ℕ) → UsedBy m.used (turn m c t n)
on_turn m c t zero = tt
on_turn m c t (suc k) = refl

bound_used : (u : ℕ) (z : ℤ) (stop : Next) (go : ℕ → Next) → UsedBy u stop → ((b : ℕ) → UsedBy u (go b)) → UsedBy u (by_bound z stop go)
bound_used u (pos zero) stop go h k = h
bound_used u (pos (suc n)) stop go h k = k (suc n)
bound_used u (negsuc n) stop go h k = h

retry_used : (m : Machine) (b n : ℕ) → UsedBy m.used (retry m b n)
retry_used m b zero = tt
retry_used m b (suc zero) = tt
retry_used m b (suc (suc k)) = refl

draws_used : (m : Machine) (x b k low : ℕ) → UsedBy m.used (draws_on m x b k low)
draws_used m x b zero low = on_test m.used (nat_lt low b) _ _ refl (retry_used m b m.tries)
draws_used m x b (suc k) low = on_test m.used (nat_lt _ b) _ _ (refl, refl) (retry_used m b m.tries)

range_used : (l : Limits) (x : ℕ) (e : Expression) (m : Machine) (d : Drawing) → UsedBy m.used (ranges l x e m d)
range_used l x e m idle = on_value m.used (value_of e m.vars) _ (λ z. bound_used m.used z _ _ tt (λ b. refl))
range_used l x e m (below b k low) = draws_used m x b k low

act_used : (l : Limits) (i : Option Instruction) (m : Machine) → UsedBy m.used (act l i m)
act_used l None m = tt
act_used l (Some (Set x e)) m = on_value m.used (value_of e m.vars) _ (λ z. refl)
act_used l (Some (Range x e)) m = range_used l x e m m.drawing
act_used l (Some (Unless e t)) m = on_value m.used (value_of e m.vars) _ (λ z. refl)
act_used l (Some (Goto t)) m = refl
act_used l (Some (Arm c)) m = refl
act_used l (Some (Loop c t e)) m = on_value m.used (value_of e m.vars) _ (λ z. on_test m.used (is_zero z) _ _ refl (on_turn m c t (slice_index m.turns c)))
act_used l (Some Tries) m = refl
act_used l (Some (Flip t)) m = (refl, refl)
act_used l (Some (Again t)) m = on_spend m.used m.tries _ _ (λ k. refl)
act_used l (Some Fail) m = on_spend m.used m.rounds _ _ (λ k. refl)
act_used l (Some (Return e)) m = tt

-- ---- a run

not_both : (m : Machine) (x : Outcome) (n i : ℕ) → Some (reached_at m (Ended x m.used)) ≡ Some (record { answer = MoreBits n; place = i }) → ⊥
not_both m x n i e =
    let a : Reached = reached_at m (Ended x m.used) in
    let b : Reached = record { answer = MoreBits n; place = i } in
    two_answers x m.used n (ap (λ (a : Reached). a.answer) (inside a b e))
  where
    inside : (a b : Reached) → Some a ≡ Some b → a ≡ b
    inside a b e = cc

    two_answers : (x : Outcome) (u n : ℕ) → Ended x u ≡ MoreBits n → ⊥
    two_answers x u n e = absurd (cc)

module _ (code : List Instruction) (l : Limits) where
  -- after these bits it needs one more
  abbrev Needy : Machine → List Bool → Type 0
  Needy m u = (n : ℕ) × (i : ℕ) × Reaches code l m u (record { answer = MoreBits n; place = i })

  step_back : (x : Next) (m : Machine) (u : List Bool) (a : Reached) → step code l m ≡ x → Reaches code l m u a → (k : ℕ) × (follow x m (within_steps code l k) u ≡ Some a)
  unfolding within_steps
  step_back x m u a e (zero, r) = absurd (cc)
  step_back x m u a e (suc k, r) = (k, ap (λ x. follow x m (within_steps code l k) u) (sym e) ∙ r)

  needy_on : (m n : Machine) (u : List Bool) → step code l m ≡ goes n → Needy m u → Needy n u
  needy_on m n u e h = let r = step_back (goes n) m u _ e h.2 in (h.0, h.1, r)

  needy_low : (m n o : Machine) (u : List Bool) → step code l m ≡ asks n o → Needy m (false ∷ u) → Needy n u
  needy_low m n o u e h = let r = step_back (asks n o) m (false ∷ u) _ e h.2 in (h.0, h.1, r)

  needy_high : (m n o : Machine) (u : List Bool) → step code l m ≡ asks n o → Needy m (true ∷ u) → Needy o u
  needy_high m n o u e h = let r = step_back (asks n o) m (true ∷ u) _ e h.2 in (h.0, h.1, r)

  not_needy : (m : Machine) (x : Outcome) (u : List Bool) → step code l m ≡ ends x → Needy m u → ⊥
  not_needy m x u e h = not_both m x h.0 h.1 (step_back (ends x) m u _ e h.2).1

  abbrev EachNeeded : Machine → List Bool → Type 0
  EachNeeded m u = (k : ℕ) → k < length u → Needy m (take k u)

  -- by what the next step is, where what it leads to counts so
  counts_by : (f : Machine → List Bool → Option Reached) (x : Next) (m : Machine) (u : List Bool) (a : Reached) → step code l m ≡ x → UsedBy m.used x →
      ((n : Machine) (v : List Bool) → f n v ≡ Some a → EachNeeded n v → used_in a.answer ≡ used_after (length v) n.used) →
      follow x m f u ≡ Some a → EachNeeded m u → used_in a.answer ≡ used_after (length u) m.used
  counts_by f (goes n) m u a e used h r needed =
      h n u r (λ k lt. needy_on m n (take k u) e (needed k lt)) ∙ ap (used_after (length u)) used
  counts_by f (asks n o) m [] a e used h r needed = let same : record { answer = MoreBits m.used; place = m.index } ≡ a = cc in sym (ap (λ (a : Reached). used_in a.answer) same)
  counts_by f (asks n o) m (false ∷ u) a e used h r needed =
      h n u r (λ k lt. needy_low m n o (take k u) e (needed (suc k) (omega (arith, lt)))) ∙ ap (used_after (length u)) used.0
  counts_by f (asks n o) m (true ∷ u) a e used h r needed =
      h o u r (λ k lt. needy_high m n o (take k u) e (needed (suc k) (omega (arith, lt)))) ∙ ap (used_after (length u)) used.1
  counts_by f (ends x) m [] a e used h r needed = let same : record { answer = Ended x m.used; place = m.index } ≡ a = cc in sym (ap (λ (a : Reached). used_in a.answer) same)
  counts_by f (ends x) m (b ∷ u) a e used h r needed = absurd (not_needy m x [] e (needed 0 (omega arith)))
  counts_by f stuck m u a e used h r needed = absurd (cc)

  counts : (k : ℕ) (m : Machine) (u : List Bool) (a : Reached) → within_steps code l k m u ≡ Some a → EachNeeded m u → used_in a.answer ≡ used_after (length u) m.used
  unfolding within_steps
  counts zero m u a r needed = absurd (cc)
  counts (suc k) m u a r needed =
      counts_by (within_steps code l k) (step code l m) m u a refl (act_used l (slice_get code m.index) m) (λ n v r' needed'. counts k n v a r' needed') r needed

-- ---- a state

each_needed : (s : Held) (u : List Bool) → ((k : ℕ) → k < length u → NeedsBit s (take k u)) → EachNeeded s.code s.limits s.machine u
each_needed s u needed k lt = let n = needed k lt in (n.0, n.1.0, n.1.1)

none_needed : (s : Held) → EachNeeded s.code s.limits s.machine []
none_needed s k lt = absurd (omega (arith, lt))

counted_from : (s : Held) (n : ℕ) (u : List Bool) (a : Reached) → UsedIs s n → ((k : ℕ) → k < length u → NeedsBit s (take k u)) → Ahead s u a → used_in a.answer < 2 ^ 64 →
    used_in a.answer ≡ capped (n + length u)
counted_from s n [] a used needed r small = let e = used a r in omega (arith, small, e)
counted_from s n (b ∷ u) a used needed r small =
    let m = s.machine.used in
    let here = needed 0 (omega arith) in
    let e : n ≡ m = used _ here.1.1 ∙ counts s.code s.limits here.1.1.0 s.machine [] _ here.1.1.1 (none_needed s) in
    counts s.code s.limits r.0 s.machine (b ∷ u) a r.1 (each_needed s (b ∷ u) needed) ∙ after_some (length u) m ∙ ap (λ m. capped (m + suc (length u))) (sym e)
  where
    after_some : (k m : ℕ) → used_after (suc k) m ≡ capped (m + suc k)
    after_some k m = used_capped k (capped (m + 1)) (omega arith) ∙ omega arith

-- a run that went on and stands there took those bits
pub took_to : (old new : Held) (n : ℕ) (bits left : List Bool) (a : Reached) → WentOn old new bits left → UsedIs old n → used_in a.answer < 2 ^ 64 → NoneIsLeft a.answer left → Ahead new [] a →
    TookTo old n bits left a
took_to old new n bits left a h used small none r =
    let u = h.asked.taken in
    let reached = subst (λ w. Ahead old w a) (append-nil u) ((h.stands [] a).0 r) in
    record {
      asked = h.asked;
      reached = reached;
      counted = counted_from old n u a used h.asked.needed reached small;
      none_left = none;
    }

-- ---- a run from its start

-- none was read
pub none_used : (s t : Held) → t.machine.used ≡ 0 → StandsAfter [] t s → UsedIs s 0
none_used s t e h a r = let q = (h [] a).0 r in sym (counts t.code t.limits q.0 t.machine [] a q.1 (none_needed t) ∙ e)

pub took_as : (s t : Held) (n : ℕ) (bits left : List Bool) (a : Reached) → StandsAfter [] t s → TookTo s n bits left a → TookTo t n bits left a
took_as s t n bits left a h k = record {
  asked = record { taken = k.asked.taken; split = k.asked.split; needed = λ i lt. needs_as s t (take i k.asked.taken) h (k.asked.needed i lt) };
  reached = (h k.asked.taken a).0 k.reached;
  counted = k.counted;
  none_left = k.none_left;
}
