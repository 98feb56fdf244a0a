-- What outcomes that count have: of an entry in order, of all entries, and of those beside a test.
use Rattle.std.proofs.Common.{◌≡◌, ◌⊎◌, inl, inr, ℕ, ◌+◌, ◌*◌, ◌≤◌, ◌<◌, Bool, true, false, cond, List, [], ◌∷◌, map, refl, sym, ap, subst, arith}
use Rattle.std.specs.Prelude.{not, ◌&&◌, ◌||◌, All, Contains}
use Rattle.gcl_core.specs.declared.answers.Limit.TheVariants.{Turns}
use Rattle.gcl_core.specs.declared.answers.Outcome.{Outcome}
use Rattle.gcl_core.specs.declared.answers.Outcome.TheVariants as outcome
use Rattle.gcl_core.specs.meaning.Order.{is_before}
use Rattle.gcl_core.specs.meaning.Outcomes.{same_outcome}
use Rattle.gcl_core.proofs.OutcomeOrder.{before_differs, after_differs}
use Rattle.gcl_core.proofs.SameOutcomes.{same_outcomes, outcome_itself}
use Rattle.mass_fold.proofs.OutcomeRows.{ascending_rest, all_after}
use Rattle.bounds_law.proofs.Contained.{first_in, later_in, in_cons}
use Rattle.std.proofs.lemmas.List.Elements.{All-head, All-tail}
use Rattle.std.proofs.Math.Nat.{mul-le-mul_left}
use Rattle.units_law.specs.Units.{Units, held, total}
use Rattle.scaled_law.specs.Given.{stay, may_be}
use Rattle.scaled_law.specs.Pairs.{Pair, Pairs, at_least, at_most}
use Rattle.scaled_fold.specs.inner.Listing.{Ascending, counted, set_aside}

abbrev pub bit : Bool → ℕ
bit b = cond b 1 0

abbrev pub keys : Pairs Outcome → List Outcome
keys K = map (λ e. e.0) K

abbrev pub with_pair : Outcome → Pair → Outcome × Pair
with_pair x w = (x, w)

-- ---- one of the two numbers of each pair

abbrev pub of_each : (Pair → ℕ) → Pairs Outcome → Units Outcome
of_each u K = map (λ e. (e.0, u e.1)) K

module _ (u : Pair → ℕ) where
  none_behind : (x : Outcome) (K : Pairs Outcome) → All (λ y. is_before x y ≡ true) (keys K) → held (λ y. bit (same_outcome x y)) (of_each u K) ≡ 0
  none_behind x [] h = refl
  none_behind x (e ∷ K) h =
      let b = before_differs x e.0 (All-head (λ y. is_before x y ≡ true) e.0 (keys K) h) in
      let i = none_behind x K (All-tail (λ y. is_before x y ≡ true) e.0 (keys K) h) in
      let z = ap (λ b. u e.1 * bit b) b in
      omega arith

  in_all : (x : Outcome) (w : Pair) (K : Pairs Outcome) (P : Outcome → Type 0) → All P (keys K) → Contains K (x, w) → P x
  in_all x w [] P h c = absurd (omega (arith, c.1))
  in_all x w (e ∷ K) P h c = by (in_cons e K (x, w) c) (in_all x w K P (All-tail P e.0 (keys K) h))
    where
      by : (e ≡ with_pair x w) ⊎ Contains K (x, w) → (Contains K (x, w) → P x) → P x
      by (inl q) i = subst (λ r. P r.0) q (All-head P e.0 (keys K) h)
      by (inr d) i = i d

  pub entry_sum : (x : Outcome) (w : Pair) (K : Pairs Outcome) → Ascending K → Contains K (x, w) → held (λ y. bit (same_outcome x y)) (of_each u K) ≡ u w
  entry_sum x w [] a c = absurd (omega (arith, c.1))
  entry_sum x w (e ∷ K) a c = by (in_cons e K (x, w) c) (entry_sum x w K (ascending_rest e.0 (keys K) a))
    where
      first : held (λ y. bit (same_outcome e.0 y)) (of_each u (e ∷ K)) ≡ u e.1
      first =
          let n = none_behind e.0 K (all_after e.0 (keys K) a) in
          let y = ap (λ b. u e.1 * bit b) (outcome_itself e.0) in
          omega arith

      by : (e ≡ with_pair x w) ⊎ Contains K (x, w) → (Contains K (x, w) → held (λ y. bit (same_outcome x y)) (of_each u K) ≡ u w) → held (λ y. bit (same_outcome x y)) (of_each u (e ∷ K)) ≡ u w
      by (inl q) i = subst (λ r. held (λ y. bit (same_outcome r.0 y)) (of_each u (e ∷ K)) ≡ u r.1) q first
      by (inr d) i =
          let b = in_all x w K (λ y. is_before e.0 y ≡ true) (all_after e.0 (keys K) a) d in
          let z = ap (λ b. u e.1 * bit b) (after_differs e.0 x b) in
          let r = i d in
          omega arith

  pub entry_of : (x : Outcome) (K : Pairs Outcome) → 0 < held (λ y. bit (same_outcome x y)) (of_each u K) → (w : Pair) × Contains K (x, w)
  entry_of x [] h = absurd (omega arith)
  entry_of x (e ∷ K) h = by (same_outcome x e.0) refl (λ k. entry_of x K k)
    where
      by : (b : Bool) → same_outcome x e.0 ≡ b → (0 < held (λ y. bit (same_outcome x y)) (of_each u K) → (w : Pair) × Contains K (x, w)) → (w : Pair) × Contains (e ∷ K) (x, w)
      by true p i = (e.1, first_in e K (x, e.1) (ap (λ y. with_pair y e.1) (sym (same_outcomes x e.0 p))))
      by false p i =
          let z = ap (λ b. u e.1 * bit b) p in
          let r = i (omega arith) in
          (r.0, later_in e K (x, r.0) r.1)

  -- what is meant and all others have all of it
  pub parted : (meant : Outcome → Bool) (K : Pairs Outcome) → held (λ x. bit (meant x)) (of_each u K) + held (λ x. bit (not (meant x))) (of_each u K) ≡ total (of_each u K)
  parted meant [] = refl
  parted meant (e ∷ K) = let i = parted meant K in let z = one_side (u e.1) (meant e.0) in omega arith
    where
      one_side : (w : ℕ) (b : Bool) → w * bit b + w * bit (not b) ≡ w * 1
      one_side w true = omega arith
      one_side w false = omega arith

  pub same_tests : (s t : Outcome → Bool) → ((x : Outcome) → s x ≡ t x) → (K : Pairs Outcome) → held (λ x. bit (s x)) (of_each u K) ≡ held (λ x. bit (t x)) (of_each u K)
  same_tests s t h [] = refl
  same_tests s t h (e ∷ K) = let i = same_tests s t h K in let z = ap (λ b. u e.1 * bit b) (h e.0) in omega arith

  -- fewer outcomes have no more
  pub fewer_have : (s t : Outcome → Bool) → ((x : Outcome) → s x ≡ true → t x ≡ true) → (K : Pairs Outcome) → held (λ x. bit (s x)) (of_each u K) ≤ held (λ x. bit (t x)) (of_each u K)
  fewer_have s t h [] = omega arith
  fewer_have s t h (e ∷ K) = let i = fewer_have s t h K in let z = mul-le-mul_left (u e.1) (less (s e.0) (t e.0) (h e.0)) in omega (arith, i, z)
    where
      less : (a b : Bool) → (a ≡ true → b ≡ true) → bit a ≤ bit b
      less true b h = let e = ap bit (h refl) in omega (arith, e)
      less false b h = omega arith

-- ---- those that count

pub same_keys : (all_turns : Bool) (K : Pairs Outcome) → keys (counted all_turns K) ≡ keys K
same_keys all_turns [] = refl
same_keys all_turns (e ∷ K) = ap (λ xs. e.0 ∷ xs) (same_keys all_turns K)

least_once : (w : Pair) (m t : Bool) → w.0 * bit (m && not t) ≡ (cond (not (true && t)) w (0, 0)).0 * bit m
least_once w true true = omega arith
least_once w true false = refl
least_once w false true = omega arith
least_once w false false = omega arith

most_once : (w : Pair) (m t : Bool) → w.1 * bit (m || t) ≡ (cond (not (true && t)) w (0, 0)).1 * bit m + cond (not (true && t)) 0 w.1
most_once w true true = omega arith
most_once w true false = omega arith
most_once w false true = omega arith
most_once w false false = omega arith

pub least_counted : (all_turns : Bool) (meant : Outcome → Bool) (K : Pairs Outcome) → held (λ x. bit (stay all_turns meant x)) (at_least K) ≡ held (λ x. bit (meant x)) (at_least (counted all_turns K))
least_counted all_turns meant [] = refl
least_counted false meant (e ∷ K) = let i = least_counted false meant K in omega arith
least_counted true meant (e ∷ K) = let i = least_counted true meant K in let z = least_once e.1 (meant e.0) (same_outcome (outcome.Limit Turns) e.0) in omega arith

pub most_counted : (all_turns : Bool) (meant : Outcome → Bool) (K : Pairs Outcome) →
    held (λ x. bit (may_be all_turns meant x)) (at_most K) ≡ held (λ x. bit (meant x)) (at_most (counted all_turns K)) + set_aside all_turns K
most_counted all_turns meant [] = refl
most_counted false meant (e ∷ K) = let i = most_counted false meant K in omega arith
most_counted true meant (e ∷ K) = let i = most_counted true meant K in let z = most_once e.1 (meant e.0) (same_outcome (outcome.Limit Turns) e.0) in omega arith
