-- Which rows of bounds there are over those of masses, what stands beside the limit of turns, and their order.
use Rattle.std.proofs.Common.{◌≡◌, ◌⊎◌, inl, inr, ◌∙◌, ℕ, zero, suc, ◌+◌, ◌<◌, ◌≤◌, Bool, true, false, List, [], ◌∷◌, length, refl, sym, ap, subst, arith, true≢false}
use Rattle.std.specs.Prelude.{All, AllPairs, Contains, if◌then◌else◌}
use Rattle.std.proofs.lemmas.List.Elements.{All-nil, All-cons, All-head, All-tail}
use Rattle.std.proofs.lemmas.List.Kept.{AllPairs-cons}
use Rattle.numbers.specs.Fraction.{lowest}
use Rattle.gcl_core.specs.declared.answers.Outcome.{Outcome}
use Rattle.gcl_core.specs.weighing.Fractions.{Fraction, zero_share, plus}
use Rattle.gcl_core.specs.meaning.Order.{is_before}
use Rattle.gcl_core.specs.meaning.Outcomes.{same_outcome, is_settled}
use Rattle.gcl_core.proofs.SameOutcomes.{same_outcomes, outcome_itself}
use Rattle.mass_fold.specs.Amounts.{held, AreHeld}
use Rattle.mass_fold.specs.Rows as masses
use Rattle.mass_fold.proofs.OutcomeRows.{ascending_rest, all_after}
use Rattle.table_flow.specs.Scale.{whole, Whole}
use Rattle.table_flow.proofs.Wholes.{whole_from, whole_lowest}
use Rattle.bounds_law.specs.Rows.{outcomes_of}
use Rattle.bounds_law.proofs.Contained.{first_in, later_in, in_cons}
use Rattle.posterior_bounds.specs.inner.Rising.{mass_in, raised}

-- ---- the mass of an outcome
abbrev pub NoRow : Outcome → masses.Rows → Type 0
NoRow x rows = (f : Fraction) → Contains rows (x, f) → ⊥

pub in_or_none : (x : Outcome) (rows : masses.Rows) → Contains rows (x, mass_in x rows) ⊎ ((mass_in x rows ≡ lowest zero_share) × NoRow x rows)
in_or_none x [] = inr (refl, λ f c. absurd (omega (arith, c.1)))
in_or_none x (row ∷ rows) = by (same_outcome x row.0) refl (in_or_none x rows)
  where
    by : (b : Bool) → same_outcome x row.0 ≡ b → Contains rows (x, mass_in x rows) ⊎ ((mass_in x rows ≡ lowest zero_share) × NoRow x rows) →
        Contains (row ∷ rows) (x, if b then row.1 else mass_in x rows) ⊎ (((if b then row.1 else mass_in x rows) ≡ lowest zero_share) × NoRow x (row ∷ rows))
    by true p i = inl (first_in row rows (x, row.1) (ap (λ y. (y, row.1)) (sym (same_outcomes x row.0 p))))
    by false p (inl c) = inl (later_in row rows (x, mass_in x rows) c)
    by false p (inr n) = inr (n.0, λ f c. apart f (in_cons row rows (x, f) c))
      where
        apart : (f : Fraction) → (row ≡ (x, f)) ⊎ Contains rows (x, f) → ⊥
        apart f (inl e) = true≢false (sym (outcome_itself x) ∙ ap (λ r. same_outcome x r.0) (sym e) ∙ p)
        apart f (inr c) = n.1 f c

-- ---- what weights are at a scale
whole_nothing : (N : ℕ) → (whole N (lowest zero_share) ≡ 0) × Whole N (lowest zero_share)
whole_nothing N =
    let a = whole_from N zero_share 0 (omega arith) (omega arith) in
    let b = whole_lowest N 0 1 a.1 in
    (b.0 ∙ a.0, b.1)

pub record Part (N : ℕ) (f : Fraction) (all : ℕ) : Type 0 where
  pub exact : Whole N f
  pub within : whole N f ≤ all

row_part : (N : ℕ) (x : Outcome) (f : Fraction) (rows : masses.Rows) → AreHeld N rows → Contains rows (x, f) → Part N f (held N (λ x. 1) rows)
row_part N x f [] h c = absurd (omega (arith, c.1))
row_part N x f (row ∷ rows) h c = by (in_cons row rows (x, f) c) (row_part N x f rows h.2)
  where
    by : (row ≡ (x, f)) ⊎ Contains rows (x, f) → (Contains rows (x, f) → Part N f (held N (λ x. 1) rows)) → Part N f (held N (λ x. 1) (row ∷ rows))
    by (inl e) i = subst (λ r. Part N r.1 (held N (λ x. 1) (row ∷ rows))) e (record { exact = h.1; within = omega arith })
    by (inr c) i = let j = i c in record { exact = j.exact; within = let z = j.within in omega arith }

pub mass_part : (N : ℕ) (x : Outcome) (rows : masses.Rows) → AreHeld N rows → Part N (mass_in x rows) (held N (λ x. 1) rows)
mass_part N x rows h = by (in_or_none x rows)
  where
    by : Contains rows (x, mass_in x rows) ⊎ ((mass_in x rows ≡ lowest zero_share) × NoRow x rows) → Part N (mass_in x rows) (held N (λ x. 1) rows)
    by (inl c) = row_part N x (mass_in x rows) rows h c
    by (inr n) = let w = whole_nothing N in subst (λ f. Part N f (held N (λ x. 1) rows)) (sym n.0) (record { exact = w.1; within = let z = w.0 in omega arith })

-- a mass beside that of another outcome
pub record Beside (N : ℕ) (f g : Fraction) (all : ℕ) : Type 0 where
  pub first : Whole N f
  pub second : Whole N g
  pub sum : whole N f + whole N g ≤ all

pub beside : (N : ℕ) (x y : Outcome) (f : Fraction) (rows : masses.Rows) → same_outcome y x ≡ false → AreHeld N rows → Contains rows (x, f) → Beside N f (mass_in y rows) (held N (λ x. 1) rows)
beside N x y f [] d h c = absurd (omega (arith, c.1))
beside N x y f (row ∷ rows) d h c = by (in_cons row rows (x, f) c) (same_outcome y row.0) refl (beside N x y f rows d h.2)
  where
    by : (row ≡ (x, f)) ⊎ Contains rows (x, f) → (b : Bool) → same_outcome y row.0 ≡ b → (Contains rows (x, f) → Beside N f (mass_in y rows) (held N (λ x. 1) rows)) →
        Beside N f (if b then row.1 else mass_in y rows) (held N (λ x. 1) (row ∷ rows))
    by (inl e) true p i = absurd (true≢false (sym p ∙ ap (λ r. same_outcome y r.0) e ∙ d))
    by (inl e) false p i =
        let m = mass_part N y rows h.2 in
        let z = m.within in
        let w : whole N row.1 ≡ whole N f = ap (λ r. whole N r.1) e in
        record { first = subst (λ r. Whole N r.1) e h.1; second = m.exact; sum = omega arith }
    by (inr c) true p i = let r = row_part N x f rows h.2 c in record { first = r.exact; second = h.1; sum = let z = r.within in omega arith }
    by (inr c) false p i = let b = i c in record { first = b.first; second = b.second; sum = let z = b.sum in omega arith }

-- ---- the rows of bounds
module _ (other : Fraction) where
  abbrev upper : Fraction → Fraction
  upper low = lowest (plus low other)

  abbrev bounds_of : Outcome × Fraction → Outcome × Fraction × Fraction
  bounds_of row = (row.0, row.1, upper row.1)

  abbrev with_bounds : Outcome → Fraction → Fraction → Outcome × Fraction × Fraction
  with_bounds x low high = (x, low, high)

  -- a row over one of masses
  pub record IsRaised (rows : masses.Rows) (x : Outcome) (low high : Fraction) : Type 0 where
    pub mass : Contains rows (x, low)
    pub settled : is_settled x ≡ true
    pub is : high ≡ upper low

  pub raised_from : (rows : masses.Rows) (x : Outcome) (low high : Fraction) → Contains (raised other rows) (x, low, high) → IsRaised rows x low high
  raised_from [] x low high c = absurd (omega (arith, c.1))
  raised_from (row ∷ rows) x low high c = by (is_settled row.0) refl c (raised_from rows x low high)
    where
      later : IsRaised rows x low high → IsRaised (row ∷ rows) x low high
      later r = record { mass = later_in row rows (x, low) r.mass; settled = r.settled; is = r.is }

      first : is_settled row.0 ≡ true → (bounds_of row ≡ with_bounds x low high) ⊎ Contains (raised other rows) (x, low, high) → (Contains (raised other rows) (x, low, high) → IsRaised rows x low high) →
          IsRaised (row ∷ rows) x low high
      first p (inl e) i =
          subst (λ r. IsRaised (row ∷ rows) r.0 r.1 r.2) e (record { mass = first_in row rows row refl; settled = p; is = refl })
      first p (inr d) i = later (i d)

      by : (b : Bool) → is_settled row.0 ≡ b → Contains (if b then bounds_of row ∷ raised other rows else raised other rows) (x, low, high) →
          (Contains (raised other rows) (x, low, high) → IsRaised rows x low high) → IsRaised (row ∷ rows) x low high
      by true p d i = first p (in_cons (bounds_of row) (raised other rows) (x, low, high) d) i
      by false p d i = later (i d)

  pub raised_has : (rows : masses.Rows) (x : Outcome) (low : Fraction) → Contains rows (x, low) → is_settled x ≡ true → Contains (raised other rows) (x, low, upper low)
  raised_has [] x low c s = absurd (omega (arith, c.1))
  raised_has (row ∷ rows) x low c s = by (is_settled row.0) refl (in_cons row rows (x, low) c) (λ d. raised_has rows x low d s)
    where
      by : (b : Bool) → is_settled row.0 ≡ b → (row ≡ (x, low)) ⊎ Contains rows (x, low) → (Contains rows (x, low) → Contains (raised other rows) (x, low, upper low)) →
          Contains (if b then bounds_of row ∷ raised other rows else raised other rows) (x, low, upper low)
      by true p (inl e) i = first_in (bounds_of row) (raised other rows) (x, low, upper low) (ap (λ r. (r.0, r.1, upper r.1)) e)
      by true p (inr d) i = later_in (bounds_of row) (raised other rows) (x, low, upper low) (i d)
      by false p (inl e) i = absurd (true≢false (sym s ∙ ap (λ r. is_settled r.0) (sym e) ∙ p))
      by false p (inr d) i = i d

  -- ---- in order
  kept_all : (P : Outcome → Type 0) (rows : masses.Rows) → All P (masses.outcomes_of rows) → All P (outcomes_of (raised other rows))
  kept_all P [] h = All-nil P
  kept_all P (row ∷ rows) h = by (is_settled row.0) (kept_all P rows (All-tail P row.0 (masses.outcomes_of rows) h))
    where
      by : (b : Bool) → All P (outcomes_of (raised other rows)) → All P (outcomes_of (if b then bounds_of row ∷ raised other rows else raised other rows))
      by true i = All-cons P row.0 (outcomes_of (raised other rows)) (All-head P row.0 (masses.outcomes_of rows) h) i
      by false i = i

  pub kept_order : (rows : masses.Rows) → masses.Ascending rows → AllPairs (λ x y. is_before x y ≡ true) (outcomes_of (raised other rows))
  kept_order [] h = λ i j d l k. absurd (omega arith)
  kept_order (row ∷ rows) h = by (is_settled row.0) (kept_order rows (ascending_rest row.0 (masses.outcomes_of rows) h))
    where
      by : (b : Bool) → AllPairs (λ x y. is_before x y ≡ true) (outcomes_of (raised other rows)) →
          AllPairs (λ x y. is_before x y ≡ true) (outcomes_of (if b then bounds_of row ∷ raised other rows else raised other rows))
      by true i = AllPairs-cons (λ x y. is_before x y ≡ true) row.0 (outcomes_of (raised other rows)) (kept_all (λ y. is_before row.0 y ≡ true) rows (all_after row.0 (masses.outcomes_of rows) h)) i
      by false i = i
