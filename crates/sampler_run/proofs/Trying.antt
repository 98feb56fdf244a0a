-- Attempts of a draw below a bound as plain values, one after the other.
use Rattle.std.proofs.Common.{◌≡◌, ℕ, zero, suc, ◌+◌, ◌*◌, ◌^◌, ◌/◌, ◌%◌, ◌-◌, ◌<◌, ◌≤◌, ◌==◌, pos, Bool, List, ◌∷◌, ◌++◌, Some, refl, sym, ap, ◌∙◌, subst, arith, le-ltb, pow-add, ⊎_elim}
use Rattle.std.specs.Prelude.{slice_get, if◌then◌else◌}
use Rattle.std.proofs.lemmas.Bool.{cases_lt}
use Rattle.std.proofs.lemmas.Nat.{mul-le}
use Rattle.gcl_core.specs.declared.answers.Limit.TheVariants.{Attempts}
use Rattle.gcl_core.specs.declared.answers.Limits.{Limits}
use Rattle.gcl_core.specs.declared.answers.Outcome.TheVariants as outcome
use Rattle.gcl_core.specs.meaning.Syntax.{Expression}
use Rattle.gcl_core.specs.meaning.Draw.{bit, bits_for}
use Rattle.gcl_core.specs.meaning.Runs.{capped}
use Rattle.zar_io.specs.FileBits.{low_bits}
use Rattle.sampler_code.specs.Instruction.{Instruction, Range}
use Rattle.sampler_code.specs.Machine.{Drawing, Machine, below, goes, asks, ends, step, stored, narrowed, retry, draws_on}
use Rattle.sampler_code.specs.inner.Bounded.{rest_of, Answered}
use Rattle.sampler_run.specs.declared.trials.Trial.{Trial}
use Rattle.sampler_run.specs.inner.Resting.{Asks, side}
use Rattle.sampler_run.specs.inner.Going.{to_go}
use Rattle.sampler_run.specs.inner.Taken.{Takes}
use Rattle.sampler_run.specs.inner.Tried.{at_trial, low_at, HasTried, SpellsOut, Went}
use Rattle.sampler_run.proofs.Settle.{falls, step_same, bit_same, answered_bit}
use Rattle.sampler_run.proofs.Takes.{takes_none, takes_more, takes_join}
use Rattle.sampler_run.proofs.Words.{fewer_to_go, needs_rest, taken_answered}
use Rattle.sampler_run.proofs.Attempts.{low_bits_split, spelled_more, used_after, used_capped, step_draws, asks_more, side_narrowed, stores}
use Rattle.sampler_run.proofs.Reading.{half, part_below, spelled_to}

-- ---- steps that take no bit

module _ (code : List Instruction) (l : Limits) where
  pub step_went : (m n : Machine) (word left : ℕ) → Answered code l m → step code l m ≡ goes n → Went code l m n word left left
  step_went m n word left h e = record { takes = takes_none _ _ _ (step_same code l m n h e); less = let f = falls code l m n h e in omega (arith, f) }

-- ---- the attempt

module _ (code : List Instruction) (l : Limits) (x : ℕ) (e : Expression) (b : ℕ) where
  draws_over : (m : Machine) (k low : ℕ) → b ≤ low * 2 ^ k → draws_on m x b k low ≡ retry m b m.tries
  draws_over m zero low ge = ap (λ (c : Bool). if c then goes (stored m x (pos low)) else retry m b m.tries) (le-ltb low b (omega (arith, ge)))
  draws_over m (suc k) low ge =
      ap (λ (c : Bool). if c then asks (narrowed m b k (2 * low)) (narrowed m b k (2 * low + 1)) else retry m b m.tries) (le-ltb (low * 2 ^ suc k) b ge)

  retry_goes : (m : Machine) (t : ℕ) → 1 < t → retry m b t ≡ goes (record m { tries = t - 1; drawing = below b (bits_for b) 0 })
  retry_goes m zero lt = absurd (omega arith)
  retry_goes m (suc zero) lt = absurd (omega arith)
  retry_goes m (suc (suc t)) lt =
      let one : suc t ≡ suc (suc t) - 1 = omega arith in
      ap (λ (t : ℕ). goes (record m { tries = t; drawing = below b (bits_for b) 0 })) one

  retry_ends : (m : Machine) (t : ℕ) → t ≤ 1 → retry m b t ≡ ends (outcome.Limit Attempts)
  retry_ends m zero le = refl
  retry_ends m (suc zero) le = refl
  retry_ends m (suc (suc t)) le = absurd (omega (arith, le))

  -- after some bits of an attempt
  abbrev read : Machine → ℕ → ℕ → ℕ → Machine
  read m j r q = record m { used = used_after j m.used; drawing = below b r q }

  -- q is what the first j bits spell, behind those before
  attempt_reads : (j k r n low q : ℕ) (m : Machine) (w : List Bool) → slice_get code m.index ≡ Some (Range x e) → m.drawing ≡ below b k low → k ≡ j + r → Answered code l m →
      q ≡ low * 2 ^ j + n % 2 ^ j → (0 < j → q / 2 * 2 ^ suc r < b) → Takes (rest_of code l m) (rest_of code l (read m j r q)) (low_bits j n ++ w) w
  unfolding low_bits
  attempt_reads zero k r n low q m w at is parts h spells under =
      let same : low ≡ q = omega (arith, spells) in
      let all : k ≡ r = omega (arith, parts) in
      let here : m ≡ read m zero r q = ap (λ (d : Drawing). let o : Machine = record m { drawing = d } in o) (is ∙ ap (λ k. below b k low) all ∙ ap (λ low. below b r low) same) in
      subst (λ n. Takes (rest_of code l m) (rest_of code l n) w w) here (takes_none _ _ _ (λ v. refl))
  attempt_reads (suc j) k r n low q m w at is parts h spells under =
      let c = n / 2 ^ j % 2 == 1 in
      let all : k ≡ suc (j + r) = omega (arith, parts) in
      let twice : 2 ^ suc j ≡ 2 * 2 ^ j = omega arith in
      let two : low * 2 ^ suc j ≡ 2 * (low * 2 ^ j) = ap (λ p. low * p) twice ∙ (omega arith) in
      let half : low * 2 ^ j ≤ q / 2 = omega (arith, two, spells) in
      let power : 2 ^ suc (j + r) ≡ 2 ^ j * 2 ^ suc r = ap (λ i. 2 ^ i) (let f : suc (j + r) ≡ j + suc r = omega arith in f) ∙ pow-add 2 j (suc r) in
      let first : low * 2 ^ suc (j + r) ≡ low * 2 ^ j * 2 ^ suc r = ap (λ p. low * p) power ∙ (omega arith) in
      let most = mul-le (low * 2 ^ j) (2 ^ suc r) (q / 2) (2 ^ suc r) half (omega arith) in
      let under_one = under (omega arith) in
      let more = step_draws code l x e b m (suc (j + r)) low at (is ∙ ap (λ k. below b k low) all) ∙ asks_more code l x e b m (j + r) low (omega (arith, first, most, under_one)) in
      let need : Asks (step code l m) = subst Asks (sym more) tt in
      let next = narrowed m b (j + r) (2 * low + bit c) in
      let leads : next ≡ side (step code l m) c m = sym (side_narrowed code l x e b m (j + r) low c) ∙ ap (λ s. side s c m) (sym more) in
      let fed = bit_same code l m next c h need leads in
      let one = takes_more (rest_of code l m) (rest_of code l m) (rest_of code l next) c (c ∷ (low_bits j n ++ w)) (c ∷ (low_bits j n ++ w)) (low_bits j n ++ w)
      (takes_none _ _ _ (λ v. refl)) refl (needs_rest code l m h need) fed in
      takes_join _ _ _ _ _ _ one
      (attempt_reads j (j + r) r n (2 * low + bit c) q next w at refl refl (answered_bit code l m next c h fed) (spells ∙ sym (spelled_more low j n)) (λ some. under_one))

  -- ---- attempts as plain values

  -- an attempt by its numbers
  trial_as : (m : Machine) (u : Trial) (need low tries used : ℕ) → u.need ≡ need → u.low ≡ low → u.tries ≡ tries → u.used ≡ used →
      record m { tries = tries; used = used; drawing = below b need low } ≡ at_trial m b u
  trial_as m u need low tries used n z r s =
      ap (λ (need : ℕ). record m { tries = tries; used = used; drawing = below b need low }) (sym n)
      ∙ ap (λ (low : ℕ). record m { tries = tries; used = used; drawing = below b u.need low }) (sym z)
      ∙ ap (λ (tries : ℕ). record m { tries = tries; used = used; drawing = below b u.need u.low }) (sym r)
      ∙ ap (λ (used : ℕ). record m { tries = u.tries; used = used; drawing = below b u.need u.low }) (sym s)

  -- one that is rejected, and the next
  pub trial_retries : (m : Machine) (t u : Trial) (word : ℕ) → slice_get code m.index ≡ Some (Range x e) → Answered code l (at_trial m b t) → b ≤ t.low * 2 ^ t.need → 1 < t.tries →
      u.need ≡ bits_for b → u.low ≡ 0 → u.tries ≡ t.tries - 1 → u.used ≡ t.used → u.left ≡ t.left → Went code l (at_trial m b t) (at_trial m b u) word t.left u.left
  trial_retries m t u word at h over tries n z r s left =
      let goes_on = step_draws code l x e b (at_trial m b t) t.need t.low at refl ∙ draws_over (at_trial m b t) t.need t.low over ∙ retry_goes (at_trial m b t) t.tries tries
      ∙ ap goes (trial_as m u (bits_for b) 0 (t.tries - 1) t.used n z r s) in
      subst (λ i. Went code l (at_trial m b t) (at_trial m b u) word t.left i) (sym left) (step_went code l (at_trial m b t) (at_trial m b u) word t.left h goes_on)

  pub trial_asks : (m : Machine) (t : Trial) → slice_get code m.index ≡ Some (Range x e) → 0 < t.need → t.low * 2 ^ t.need < b → Asks (step code l (at_trial m b t))
  trial_asks m t at some lt =
      let all : t.need ≡ suc (t.need - 1) = omega (arith, some) in
      let more = step_draws code l x e b (at_trial m b t) (suc (t.need - 1)) t.low at (ap (λ k. below b k t.low) all)
      ∙ asks_more code l x e b (at_trial m b t) (t.need - 1) t.low (subst (λ k. t.low * 2 ^ k < b) all lt) in
      subst Asks (sym more) tt

  -- one with some bits more
  trial_reads : (m : Machine) (t u : Trial) (word rest : ℕ) → slice_get code m.index ≡ Some (Range x e) → Answered code l (at_trial m b t) → t.used < 2 ^ 64 → rest ≤ t.need → t.need - rest ≤ t.left →
      u.low ≡ low_at word t rest → u.low / 2 * 2 ^ (rest + 1) < b →
      u.need ≡ rest → u.tries ≡ t.tries → u.used ≡ capped (t.used + (t.need - rest)) → u.left ≡ t.left - (t.need - rest) → Went code l (at_trial m b t) (at_trial m b u) word t.left u.left
  trial_reads m t u word rest at h used fewer enough low before n r s left =
      let j = t.need - rest in
      let after = t.left - j in
      let need : t.need ≡ j + rest = omega (arith, fewer) in
      let all : t.left ≡ j + after = omega (arith, enough) in
      let bits : low_bits t.left word ≡ low_bits j (word / 2 ^ after) ++ low_bits after word = ap (λ i. low_bits i word) all ∙ low_bits_split j after word in
      let there : read (at_trial m b t) j rest u.low ≡ at_trial m b u = trial_as m u rest u.low t.tries (used_after j t.used) n refl r (s ∙ sym (used_capped j t.used used)) in
      let up : rest + 1 ≡ suc rest = omega arith in
      let under = subst (λ i. u.low / 2 * 2 ^ i < b) up before in
      let took = attempt_reads j t.need rest (word / 2 ^ after) t.low u.low (at_trial m b t) (low_bits after word) at refl need h low (λ _. under) in
      record {
        takes = subst (λ i. Takes (rest_of code l (at_trial m b t)) (rest_of code l (at_trial m b u)) (low_bits t.left word) (low_bits i word)) (sym left)
            (subst (λ n. Takes (rest_of code l (at_trial m b t)) (rest_of code l n) (low_bits t.left word) (low_bits after word)) there
            (subst (λ w. Takes (rest_of code l (at_trial m b t)) (rest_of code l (read (at_trial m b t) j rest u.low)) w (low_bits after word)) (sym bits) took));
        less = subst (λ i. to_go code l i (at_trial m b u) ≤ to_go code l t.left (at_trial m b t)) (sym left)
            (⊎_elim
            (λ (some : 0 < j). let less = fewer_to_go code l (at_trial m b t) (at_trial m b u) t.left after (omega (arith, some, enough)) in omega (arith, less))
            (λ (none : j ≤ 0).
            let zero_bits : j ≡ 0 = omega (arith, none) in
            let same : u.low ≡ t.low = subst (λ j. u.low ≡ t.low * 2 ^ j + word / 2 ^ (t.left - j) % 2 ^ j) zero_bits low ∙ (omega arith) in
            let here : at_trial m b t ≡ at_trial m b u = trial_as m u t.need t.low t.tries t.used (omega (arith, n, need, none)) same r (omega (arith, s, used, none)) in
            let rests : after ≡ t.left = omega (arith, none) in
            subst (λ i. to_go code l i (at_trial m b u) ≤ to_go code l t.left (at_trial m b t)) (sym rests)
            (subst (λ n. to_go code l t.left n ≤ to_go code l t.left (at_trial m b t)) here (omega arith)))
            (cases_lt 0 j));
      }

  -- one that has succeeded
  pub trial_stores : (m : Machine) (t : Trial) → slice_get code m.index ≡ Some (Range x e) → t.need ≡ 0 → t.low < b → step code l (at_trial m b t) ≡ goes (stored (at_trial m b t) x (pos t.low))
  trial_stores m t at none lt = step_draws code l x e b (at_trial m b t) 0 t.low at (ap (λ k. below b k t.low) none) ∙ stores code l x e b (at_trial m b t) t.low lt

  -- one that is rejected, and was the last
  pub trial_ends : (m : Machine) (t : Trial) → slice_get code m.index ≡ Some (Range x e) → b ≤ t.low * 2 ^ t.need → t.tries ≤ 1 → step code l (at_trial m b t) ≡ ends (outcome.Limit Attempts)
  trial_ends m t at over last =
      step_draws code l x e b (at_trial m b t) t.need t.low at refl ∙ draws_over (at_trial m b t) t.need t.low over ∙ retry_ends (at_trial m b t) t.tries last

-- ---- one after the other

module _ (code : List Instruction) (l : Limits) where
  pub went_answered : (old new : Machine) (word before after : ℕ) → Answered code l old → Went code l old new word before after → Answered code l new
  went_answered old new word before after h w = taken_answered code l old new _ _ h w.takes

  pub both_went : (old mid new : Machine) (word before between after : ℕ) → Went code l old mid word before between → Went code l mid new word between after → Went code l old new word before after
  both_went old mid new word before between after v w = record {
    takes = takes_join _ _ _ _ _ _ v.takes w.takes;
    less = let a = v.less in let b = w.less in omega (arith, a, b);
  }

-- an attempt that spells a number with the bits that are not missing, and 0 for each that is
module _ (b word : ℕ) (t u : Trial) (n missing : ℕ) (spells : SpellsOut word t n missing) (used : t.used < 2 ^ 64) where
  -- where it needs so many more
  pub read_tried : (rest : ℕ) → missing ≤ rest → rest ≤ t.need → n / 2 ^ (rest + 1) * 2 ^ (rest + 1) < b →
      u.need ≡ rest → u.low ≡ n / 2 ^ rest → u.tries ≡ t.tries → u.used ≡ capped (t.used + (t.need - rest)) → u.left ≡ t.left - (t.need - rest) → HasTried b word t u
  read_tried rest more fewer before k z r s left = λ code l x e m at h.
      let enough = spells.enough in
      let low = z ∙ spelled_to n word t missing spells rest more fewer in
      let under = subst (λ q. q * 2 ^ (rest + 1) < b) (sym (half n rest) ∙ ap (λ q. q / 2) (sym z)) before in
      trial_reads code l x e b m t u word rest at h used fewer (omega (arith, enough, more)) low under k r s left

  -- where it needs those that are missing
  pub short_tried : n < b → u.need ≡ missing → u.low ≡ n / 2 ^ missing → u.tries ≡ t.tries → u.used ≡ capped (t.used + (t.need - missing)) → u.left ≡ t.left - (t.need - missing) → HasTried b word t u
  short_tried lt = read_tried missing (omega arith) spells.few (part_below b n (missing + 1) lt)

-- attempts after others
pub tried_join : (b word : ℕ) (t u v : Trial) → HasTried b word t u → HasTried b word u v → HasTried b word t v
tried_join b word t u v before after = λ code l x e m at h.
    let w = before code l x e m at h in
    both_went code l (at_trial m b t) (at_trial m b u) (at_trial m b v) word t.left u.left v.left w (after code l x e m at (went_answered code l (at_trial m b t) (at_trial m b u) word t.left u.left h w))
