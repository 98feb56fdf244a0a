-- The rows of bounds over outcomes in order, each once with its units: which there are.
use Rattle.std.proofs.Common.{◌≡◌, ◌⊎◌, inl, inr, ℕ, zero, suc, ◌*◌, ◌<◌, Bool, true, false, cond, Option, Some, None, List, [], ◌∷◌, ◌++◌, map, refl, sym, ap, ◌∙◌, subst, arith}
use Rattle.std.specs.Prelude.{All, AllPairs, Contains, if◌then◌else◌}
use Rattle.std.specs.Map.{keys_of}
use Rattle.std.proofs.lemmas.List.{append_assoc}
use Rattle.std.proofs.lemmas.List.Elements.{All-nil, All-cons, All-head, All-tail}
use Rattle.std.proofs.lemmas.List.Kept.{AllPairs-cons}
use Rattle.gcl_core.specs.declared.answers.Limit.TheVariants.{Rounds}
use Rattle.gcl_core.specs.declared.answers.Outcome.{Outcome}
use Rattle.gcl_core.specs.declared.answers.Outcome.TheVariants as outcome
use Rattle.gcl_core.specs.meaning.Order.{is_before}
use Rattle.gcl_core.specs.meaning.Outcomes.{same_outcome}
use Rattle.gcl_core.specs.weighing.Fractions.{Fraction}
use Rattle.gcl_core.proofs.OutcomeOrder.{before_differs, after_differs}
use Rattle.gcl_core.proofs.SameOutcomes.{same_outcomes, outcome_itself}
use Rattle.mass_fold.proofs.OutcomeRows.{ascending_rest, all_after}
use Rattle.bounds_law.specs.Rows.{outcomes_of}
use Rattle.bounds_law.proofs.Contained.{first_in, later_in, in_cons}
use Rattle.units_law.specs.Units.{Units}
use Rattle.units_law.specs.Between.{least_of}
use Rattle.units_law.specs.SomeRounds.{in_rounds}
use Rattle.enclose_fold.specs.inner.Outcomes.{those, Ascending}
use Rattle.enclose_fold.specs.inner.Rows.{least_at, lower_at, upper_at, bounds_from, bounds_at, with_row, rows_of}
use Rattle.enclose_fold.proofs.ManyRounds.{rounds_nothing}

abbrev keys : Units Outcome → List Outcome
keys J = map (λ e. e.0) J

abbrev with_units : Outcome → ℕ → Outcome × ℕ
with_units x w = (x, w)

-- ---- the entry of an outcome

in_all : (x : Outcome) (w : ℕ) (J : Units Outcome) (P : Outcome → Type 0) → All P (keys J) → Contains J (x, w) → P x
in_all x w [] P h c = absurd (omega (arith, c.1))
in_all x w (e ∷ J) P h c = by (in_cons e J (x, w) c) (in_all x w J P (All-tail P e.0 (keys J) h))
  where
    by : (e ≡ with_units x w) ⊎ Contains J (x, w) → (Contains J (x, w) → P x) → P x
    by (inl q) i = subst (λ r. P r.0) q (All-head P e.0 (keys J) h)
    by (inr d) i = i d

none_behind : (x : Outcome) (J : Units Outcome) → All (λ y. is_before x y ≡ true) (keys J) → those (same_outcome x) J ≡ 0
none_behind x [] h = refl
none_behind x (e ∷ J) h =
    let b = before_differs x e.0 (All-head (λ y. is_before x y ≡ true) e.0 (keys J) h) in
    let i = none_behind x J (All-tail (λ y. is_before x y ≡ true) e.0 (keys J) h) in
    let z = ap (λ b. e.1 * cond b 1 0) b in
    omega arith

pub entry_sum : (x : Outcome) (w : ℕ) (J : Units Outcome) → Ascending J → Contains J (x, w) → those (same_outcome x) J ≡ w
entry_sum x w [] a c = absurd (omega (arith, c.1))
entry_sum x w (e ∷ J) a c = by (in_cons e J (x, w) c) (entry_sum x w J (ascending_rest e.0 (keys J) a))
  where
    first : those (same_outcome e.0) (e ∷ J) ≡ e.1
    first =
        let n = none_behind e.0 J (all_after e.0 (keys J) a) in
        let y = ap (λ b. e.1 * cond b 1 0) (outcome_itself e.0) in
        omega arith

    by : (e ≡ with_units x w) ⊎ Contains J (x, w) → (Contains J (x, w) → those (same_outcome x) J ≡ w) → those (same_outcome x) (e ∷ J) ≡ w
    by (inl q) i = subst (λ r. those (same_outcome r.0) (e ∷ J) ≡ r.1) q first
    by (inr d) i =
        let b = in_all x w J (λ y. is_before e.0 y ≡ true) (all_after e.0 (keys J) a) d in
        let z = ap (λ b. e.1 * cond b 1 0) (after_differs e.0 x b) in
        let r = i d in
        omega arith

entry_of : (x : Outcome) (J : Units Outcome) → 0 < those (same_outcome x) J → (w : ℕ) × Contains J (x, w)
entry_of x [] h = absurd (omega arith)
entry_of x (e ∷ J) h = by (same_outcome x e.0) refl (λ k. entry_of x J k)
  where
    by : (b : Bool) → same_outcome x e.0 ≡ b → (0 < those (same_outcome x) J → (w : ℕ) × Contains J (x, w)) → (w : ℕ) × Contains (e ∷ J) (x, w)
    by true p i = (e.1, first_in e J (x, e.1) (ap (λ y. with_units y e.1) (sym (same_outcomes x e.0 p))))
    by false p i =
        let z = ap (λ b. e.1 * cond b 1 0) p in
        let r = i (omega arith) in
        (r.0, later_in e J (x, r.0) r.1)

key_entry : (x : Outcome) (J : Units Outcome) → Contains (keys_of J) x → (w : ℕ) × Contains J (x, w)
key_entry x [] c = absurd (omega (arith, c.1))
key_entry x (e ∷ J) c = by (in_cons e.0 (keys_of J) x c) (key_entry x J)
  where
    by : (e.0 ≡ x) ⊎ Contains (keys_of J) x → (Contains (keys_of J) x → (w : ℕ) × Contains J (x, w)) → (w : ℕ) × Contains (e ∷ J) (x, w)
    by (inl q) i = (e.1, first_in e J (x, e.1) (ap (λ y. with_units y e.1) q))
    by (inr d) i = let r = i d in (r.0, later_in e J (x, r.0) r.1)

some_given : (R : Option ℕ) (failed w : ℕ) (meant : Outcome → Bool) → meant (outcome.Limit Rounds) ≡ false → 0 < least_of R failed w meant → 0 < w
some_given None failed w meant p h = h
some_given (Some R) failed zero meant p h =
    let a = rounds_nothing failed R in
    let b = ap (λ b. if b then (in_rounds (failed, 0) R).0 else 0) p in
    absurd (omega (arith, h, a, b))
some_given (Some R) failed (suc w) meant p h = omega arith

-- an outcome that has a unit at least has an entry
pub has_entry : (R : Option ℕ) (failed : ℕ) (J : Units Outcome) (x : Outcome) → Contains (keys_of J) (outcome.Limit Rounds) → 0 < least_of R failed (those (same_outcome x) J) (same_outcome x) → (w : ℕ) × Contains J (x, w)
has_entry R failed J x rounds h = by (same_outcome x (outcome.Limit Rounds)) refl
  where
    by : (b : Bool) → same_outcome x (outcome.Limit Rounds) ≡ b → (w : ℕ) × Contains J (x, w)
    by true p = subst (λ y. (w : ℕ) × Contains J (y, w)) (sym (same_outcomes x (outcome.Limit Rounds) p)) (key_entry (outcome.Limit Rounds) J rounds)
    by false p = entry_of x J (some_given R failed (those (same_outcome x) J) (same_outcome x) p h)

-- ---- rows
module _ (R : Option ℕ) (failed all : ℕ) where
  abbrev row : Outcome → ℕ → Outcome × Fraction × Fraction
  row x w = (x, lower_at R failed all x w, upper_at R failed all x w)

  abbrev with_bounds : Outcome → Fraction → Fraction → Outcome × Fraction × Fraction
  with_bounds x low high = (x, low, high)

  abbrev rows : Units Outcome → List (Outcome × Fraction × Fraction)
  rows J = rows_of R failed all J

  abbrev least : Outcome → ℕ → ℕ
  least x w = least_at R failed all x w

  pub record IsRow (J : Units Outcome) (x : Outcome) (low high : Fraction) : Type 0 where
    pub units : ℕ
    pub entry : Contains J (x, units)
    pub some : 0 < least_at R failed all x units
    pub lower : low ≡ lower_at R failed all x units
    pub upper : high ≡ upper_at R failed all x units

  pub row_from : (J : Units Outcome) (x : Outcome) (low high : Fraction) → Contains (rows_of R failed all J) (x, low, high) → IsRow J x low high
  row_from [] x low high c = absurd (omega (arith, c.1))
  row_from (e ∷ J) x low high c = by (least e.0 e.1) refl c (row_from J x low high)
    where
      later : IsRow J x low high → IsRow (e ∷ J) x low high
      later r = record { units = r.units; entry = later_in e J (x, r.units) r.entry; some = r.some; lower = r.lower; upper = r.upper }

      first : 0 < least e.0 e.1 → (row e.0 e.1 ≡ with_bounds x low high) ⊎ Contains (rows J) (x, low, high) → (Contains (rows J) (x, low, high) → IsRow J x low high) → IsRow (e ∷ J) x low high
      first s (inl q) i = subst (λ r. IsRow (e ∷ J) r.0 r.1 r.2) q (record { units = e.1; entry = first_in e J (e.0, e.1) refl; some = s; lower = refl; upper = refl })
      first s (inr d) i = later (i d)

      by : (k : ℕ) → least e.0 e.1 ≡ k → Contains (with_row e.0 (bounds_from R failed all k e.0 e.1) (rows J)) (x, low, high) → (Contains (rows J) (x, low, high) → IsRow J x low high) → IsRow (e ∷ J) x low high
      by zero p d i = later (i d)
      by (suc k) p d i = first (omega (arith, p)) (in_cons (row e.0 e.1) (rows J) (x, low, high) d) i

  pub row_has : (J : Units Outcome) (x : Outcome) (w : ℕ) → Contains J (x, w) → 0 < least_at R failed all x w → Contains (rows_of R failed all J) (x, lower_at R failed all x w, upper_at R failed all x w)
  row_has [] x w c s = absurd (omega (arith, c.1))
  row_has (e ∷ J) x w c s = by (in_cons e J (x, w) c) (λ d. row_has J x w d s)
    where
      here : e ≡ with_units x w → (k : ℕ) → least e.0 e.1 ≡ k → 0 < least e.0 e.1 → Contains (with_row e.0 (bounds_from R failed all k e.0 e.1) (rows J)) (row x w)
      here q zero p l = absurd (omega (arith, p, l))
      here q (suc k) p l = first_in (row e.0 e.1) (rows J) (row x w) (ap (λ r. row r.0 r.1) q)

      there : Contains (rows J) (row x w) → (k : ℕ) → Contains (with_row e.0 (bounds_from R failed all k e.0 e.1) (rows J)) (row x w)
      there i zero = i
      there i (suc k) = later_in (row e.0 e.1) (rows J) (row x w) i

      by : (e ≡ with_units x w) ⊎ Contains J (x, w) → (Contains J (x, w) → Contains (rows J) (row x w)) → Contains (rows (e ∷ J)) (row x w)
      by (inl q) i = here q (least e.0 e.1) refl (subst (λ r. 0 < least r.0 r.1) (sym q) s)
      by (inr d) i = there (i d) (least e.0 e.1)

  kept_all : (P : Outcome → Type 0) (J : Units Outcome) → All P (keys J) → All P (outcomes_of (rows J))
  kept_all P [] h = All-nil P
  kept_all P (e ∷ J) h = by (least e.0 e.1) (kept_all P J (All-tail P e.0 (keys J) h))
    where
      by : (k : ℕ) → All P (outcomes_of (rows J)) → All P (outcomes_of (with_row e.0 (bounds_from R failed all k e.0 e.1) (rows J)))
      by zero i = i
      by (suc k) i = All-cons P e.0 (outcomes_of (rows J)) (All-head P e.0 (keys J) h) i

  pub kept_order : (J : Units Outcome) → Ascending J → AllPairs (λ x y. is_before x y ≡ true) (outcomes_of (rows_of R failed all J))
  kept_order [] h = λ i j d l k. absurd (omega arith)
  kept_order (e ∷ J) h = by (least e.0 e.1) (kept_order J (ascending_rest e.0 (keys J) h))
    where
      by : (k : ℕ) → AllPairs (λ x y. is_before x y ≡ true) (outcomes_of (rows J)) → AllPairs (λ x y. is_before x y ≡ true) (outcomes_of (with_row e.0 (bounds_from R failed all k e.0 e.1) (rows J)))
      by zero i = i
      by (suc k) i = AllPairs-cons (λ x y. is_before x y ≡ true) e.0 (outcomes_of (rows J)) (kept_all (λ y. is_before e.0 y ≡ true) J (all_after e.0 (keys J) h)) i

  -- ---- a walk over the entries
  pub rows_start : (start J : Units Outcome) (items : List (Outcome × Fraction × Fraction)) → items ≡ [] → start ≡ J → items ++ rows_of R failed all start ≡ rows_of R failed all J
  rows_start start J items p q = ap (λ z. z ++ rows_of R failed all start) p ∙ ap (rows_of R failed all) q

  with_row_first : (x : Outcome) (b : Option (Fraction × Fraction)) (L : List (Outcome × Fraction × Fraction)) → with_row x b [] ++ L ≡ with_row x b L
  with_row_first x None L = refl
  with_row_first x (Some b) L = refl

  pub rows_next : (items items' whole : List (Outcome × Fraction × Fraction)) (rest rest' : Units Outcome) (x : Outcome) (w : ℕ) (b : Option (Fraction × Fraction)) → rest ≡ (x, w) ∷ rest' →
      items' ≡ items ++ with_row x b [] → b ≡ bounds_at R failed all x w → items ++ rows_of R failed all rest ≡ whole → items' ++ rows_of R failed all rest' ≡ whole
  rows_next items items' whole rest rest' x w b p q e h =
      ap (λ z. z ++ rows_of R failed all rest') q
      ∙ append_assoc items (with_row x b []) (rows_of R failed all rest')
      ∙ ap (λ z. items ++ z) (with_row_first x b (rows_of R failed all rest'))
      ∙ ap (λ b. items ++ with_row x b (rows_of R failed all rest')) e
      ∙ ap (λ r. items ++ rows_of R failed all r) (sym p)
      ∙ h

  pub rows_end : (items whole : List (Outcome × Fraction × Fraction)) (rest : Units Outcome) → rest ≡ [] → items ++ rows_of R failed all rest ≡ whole → items ≡ whole
  rows_end items whole rest p h = sym (no_more items) ∙ ap (λ r. items ++ rows_of R failed all r) (sym p) ∙ h
    where
      no_more : (items : List (Outcome × Fraction × Fraction)) → items ++ [] ≡ items
      no_more [] = refl
      no_more (row ∷ items) = ap (λ z. row ∷ z) (no_more items)
