-- Rows of masses that are read one by one.
use Rattle.std.proofs.Common.{◌≡◌, ◌∙◌, ℕ, suc, zero, ◌+◌, ◌*◌, ◌<◌, Bool, true, false, List, [], ◌∷◌, ◌++◌, drop, Some, sym, ap, arith, append_assoc}
use Rattle.std.specs.List.{slice_get}
use Rattle.std.specs.Prelude.{if◌then◌else◌}
use Rattle.numbers.specs.Fraction.{lowest}
use Rattle.numbers.specs.Arithmetic.{InLowest, sum_of}
use Rattle.gcl_core.specs.declared.answers.Outcome.{Outcome}
use Rattle.gcl_core.specs.weighing.Fractions.{Fraction, plus}
use Rattle.gcl_core.specs.meaning.Outcomes.{same_outcome, is_settled}
use Rattle.mass_fold.specs.Rows as masses
use Rattle.mass_fold.proofs.OutcomeRows.{lowest_is}
use Rattle.table_flow.specs.Scale.{whole}
use Rattle.table_flow.proofs.Wholes.{whole_from, sum_whole}
use Rattle.weighing_law.proofs.Shares.{product_pos}
use Rattle.bounds_law.specs.Rows.{Rows}
use Rattle.posterior_bounds.specs.inner.Rising.{mass_in, raised}

-- ---- the row at a place
next_row : {A : Type 0} (rows : List A) (i : ℕ) (row : A) → slice_get rows i ≡ Some row → drop i rows ≡ row ∷ drop (suc i) rows
next_row [] i row e = absurd (cc)
next_row (r ∷ rows) zero row e = let same : r ≡ row = cc in ap (λ x. x ∷ rows) same
next_row (r ∷ rows) (suc i) row e = next_row rows i row e

behind : {A B : Type 0} (F : List A → B) (rows : List A) (i : ℕ) → F (drop (suc i) rows) ≡ F (drop (i + 1) rows)
behind F rows i = let e : suc i ≡ i + 1 = omega arith in ap (λ k. F (drop k rows)) e

module _ (rows : masses.Rows) (i : ℕ) (row : Outcome × Fraction) (at : slice_get rows i ≡ Some row) where
  -- ---- the mass of an outcome
  module _ (x : Outcome) (m : Fraction) (so : mass_in x (drop i rows) ≡ m) where
    chosen : (b : Bool) → same_outcome x row.0 ≡ b → (if b then row.1 else mass_in x (drop (suc i) rows)) ≡ m
    chosen b e = ap (λ b. if b then row.1 else mass_in x (drop (suc i) rows)) (sym e) ∙ sym (ap (mass_in x) (next_row rows i row at)) ∙ so

    pub mass_here : same_outcome x row.0 ≡ true → row.1 ≡ m
    mass_here e = chosen true e

    pub mass_behind : same_outcome x row.0 ≡ false → mass_in x (drop (i + 1) rows) ≡ m
    mass_behind e = sym (behind (mass_in x) rows i) ∙ chosen false e

  -- ---- the rows of bounds
  module _ (other : Fraction) (bounds whole : Rows) (so : bounds ++ raised other (drop i rows) ≡ whole) where
    abbrev rest : Rows
    rest = raised other (drop (suc i) rows)

    abbrev with_row : Bool → Rows
    with_row b = if b then (row.0, row.1, lowest (plus row.1 other)) ∷ rest else rest

    joined : (b : Bool) → is_settled row.0 ≡ b → bounds ++ with_row b ≡ whole
    joined b e = ap (λ b. bounds ++ with_row b) (sym e) ∙ sym (ap (λ l. bounds ++ raised other l) (next_row rows i row at)) ∙ so

    pub raised_one : (more : Rows) (high : Fraction) → is_settled row.0 ≡ true → high ≡ lowest (plus row.1 other) → more ≡ bounds ++ (row.0, row.1, high) ∷ [] →
        more ++ raised other (drop (i + 1) rows) ≡ whole
    raised_one more high e h p =
        sym (behind (λ l. more ++ raised other l) rows i)
        ∙ ap (λ l. l ++ rest) p
        ∙ append_assoc bounds ((row.0, row.1, high) ∷ []) rest
        ∙ ap (λ h. bounds ++ (row.0, row.1, h) ∷ rest) h
        ∙ joined true e

    pub raised_none : is_settled row.0 ≡ false → bounds ++ raised other (drop (i + 1) rows) ≡ whole
    raised_none e = sym (behind (λ l. bounds ++ raised other l) rows i) ∙ joined false e

-- ---- behind the last row

-- ---- a sum that fits is the sum in lowest terms
pub sum_is : (p q h : Fraction) → InLowest p → InLowest q → InLowest h → sum_of p q ≡ Some h → h ≡ lowest (plus p q)
sum_is p q h lp lq lh e =
    let N = p.1 * q.1 in
    let pp : 0 < p.1 = let z = lp.positive in omega arith in
    let qp : 0 < q.1 = let z = lq.positive in omega arith in
    let a = whole_from N p (p.0 * q.1) pp (omega arith) in
    let b = whole_from N q (q.0 * p.1) qp (omega arith) in
    let s = sum_whole N p q h a.1 b.1 e in
    let W : whole N h ≡ p.0 * q.1 + q.0 * p.1 = let x = s.0 in let y = a.0 in let z = b.0 in omega arith in
    lowest_is h (plus p q) lh (product_pos p.1 q.1 pp qp) (sym s.1.exact ∙ ap (λ w. h.1 * w) W ∙ (let z : h.1 * (p.0 * q.1 + q.0 * p.1) ≡ (p.0 * q.1 + q.0 * p.1) * h.1 = omega arith in z))
