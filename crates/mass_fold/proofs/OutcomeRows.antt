-- Rows that hold masses are the rows of these masses.
use Rattle.std.proofs.Common.{◌≡◌, ℕ, zero, suc, ◌*◌, ◌/◌, ◌<◌, Bool, true, false, cond, Result, Ok, Err, IfOk, List, [], ◌∷◌, length, slice_index_or, refl, sym, ap, ◌∙◌, subst, arith}
use Rattle.std.specs.Prelude.{All, AllPairs, Contains}
use native.Mathlib.Nat.{mul-div_cancel', dvd-mul_left}
use Rattle.std.proofs.lemmas.Nat.Gcd.{IsGcd-swap}
use Rattle.gcl_core.specs.declared.answers.Outcome.{Outcome}
use Rattle.gcl_core.specs.weighing.Fractions.{Fraction}
use Rattle.gcl_core.specs.meaning.Order.{is_before}
use Rattle.gcl_core.specs.meaning.Outcomes.{same_outcome}
use Rattle.gcl_core.proofs.OutcomeOrder.{before_differs, after_differs}
use Rattle.gcl_core.proofs.SameOutcomes.{same_outcomes, outcome_itself}
use Rattle.numbers.specs.Fraction.{IsEqual, lowest}
use Rattle.numbers.specs.Arithmetic.{InLowest}
use Rattle.numbers.proofs.Divisors.{gauss, along_to, lowest_from, product_pos, cancel, factor_pos}
use Rattle.table_flow.specs.Scale.{whole, Whole}
use Rattle.mass_fold.specs.declared.error.MassError.{MassError}
use Rattle.mass_fold.specs.Amounts.{held, AreHeld}
use Rattle.mass_fold.specs.inner.Masses.{counted, HoldMasses}
use Rattle.mass_fold.specs.Rows.{Rows, outcomes_of, Ascending, EachLowest, AreMasses}
use Rattle.mass_fold.proofs.Insertion.{whole_pos}

-- ---- lowest terms of one value

-- lowest terms of a value are those of each fraction of it
pub lowest_is : (f g : Fraction) → InLowest f → 0 < g.1 → IsEqual f g → f ≡ lowest g
lowest_is f g l pos e =
    let fp : 0 < f.1 = let z = l.positive in omega arith in
    let d = gauss f.1 f.0 g.1 pos (IsGcd-swap f.0 f.1 1 l.coprime) (along_to f.1 (g.0 * f.1) (f.0 * g.1) (sym e) (dvd-mul_left f.1 g.0)) in
    let c = g.1 / f.1 in
    let h : f.1 * c ≡ g.1 = mul-div_cancel' f.1 d in
    let k : c * f.1 ≡ g.1 = omega arith in
    let m : g.0 ≡ c * f.0 = cancel f.1 _ _ fp (across f.0 f.1 g.0 g.1 c e k) in
    sym (ap (λ n. lowest (n, g.1)) m ∙ ap (λ n. lowest (c * f.0, n)) (sym k) ∙ lowest_from c f.0 f.1 (factor_pos f.1 c g.1 pos h) fp l.coprime)
  where
    across : (n d a b c : ℕ) → n * b ≡ a * d → c * d ≡ b → d * a ≡ d * (c * n)
    across n d a b c e k = let x = ap (λ z. n * z) k in omega arith

-- two fractions that are so much of one scale
pub one_value : (N W : ℕ) (f g : Fraction) → 0 < N → f.1 * W ≡ f.0 * N → g.1 * W ≡ g.0 * N → IsEqual f g
one_value N W f g pos p q = cancel N _ _ pos (crossed f.0 f.1 g.0 g.1 W N p q)
  where
    crossed : (a b c d W N : ℕ) → b * W ≡ a * N → d * W ≡ c * N → N * (a * d) ≡ N * (c * b)
    crossed a b c d W N p q = let x = ap (λ u. u * d) p in let y = ap (λ u. u * b) q in omega arith

-- ---- the row of an outcome
abbrev here : Outcome → Outcome → ℕ
here x = counted (same_outcome x)

none_behind : (N : ℕ) (x : Outcome) (rows : Rows) → All (λ y. is_before x y ≡ true) (outcomes_of rows) → held N (here x) rows ≡ 0
none_behind N x [] h = refl
none_behind N x (row ∷ rows) h =
    let b = before_differs x row.0 (h 0 x (omega arith)) in
    let i = none_behind N x rows (λ k d l. h (suc k) d (omega arith)) in
    let z = ap (λ b. whole N row.1 * cond b 1 0) b in
    omega arith

pub ascending_rest : (x : Outcome) (xs : List Outcome) → AllPairs (λ x y. is_before x y ≡ true) (x ∷ xs) → AllPairs (λ x y. is_before x y ≡ true) xs
ascending_rest x xs h = λ i j d l k. h (suc i) (suc j) d (omega arith) (omega arith)

pub all_after : (x : Outcome) (xs : List Outcome) → AllPairs (λ x y. is_before x y ≡ true) (x ∷ xs) → All (λ y. is_before x y ≡ true) xs
all_after x xs h = λ k d l. h 0 (suc k) d (omega arith) (omega arith)

pub outcome_at : (rows : Rows) (k : ℕ) (x : Outcome) (f : Fraction) → slice_index_or (outcomes_of rows) k x ≡ (slice_index_or rows k (x, f)).0
outcome_at [] k x f = refl
outcome_at (row ∷ rows) zero x f = refl
outcome_at (row ∷ rows) (suc k) x f = outcome_at rows k x f

pub same_length : (rows : Rows) → length (outcomes_of rows) ≡ length rows
same_length [] = refl
same_length (row ∷ rows) = ap suc (same_length rows)

record IsRow (N : ℕ) (rows : Rows) (x : Outcome) (f : Fraction) : Type 0 where
  pub sum : held N (here x) rows ≡ whole N f
  pub positive : 0 < f.0
  pub exact : Whole N f
  pub in_lowest : InLowest f

row_at : (N : ℕ) (x : Outcome) (f : Fraction) (rows : Rows) (k : ℕ) → k < length rows → slice_index_or rows k (x, f) ≡ (x, f) → Ascending rows → AreHeld N rows → EachLowest rows → IsRow N rows x f
row_at N x f [] k l e a h m = absurd (omega arith)
row_at N x f (row ∷ rows) zero l e a h m = subst (λ r. IsRow N (row ∷ rows) r.0 r.1) e (record {
  sum = let z = none_behind N row.0 rows (all_after row.0 (outcomes_of rows) a) in let y = ap (λ b. whole N row.1 * cond b 1 0) (outcome_itself row.0) in omega arith;
  positive = h.0;
  exact = h.1;
  in_lowest = m.0;
})
row_at N x f (row ∷ rows) (suc k) l e a h m =
    let r = row_at N x f rows k (omega arith) e (ascending_rest row.0 (outcomes_of rows) a) h.2 m.1 in
    let s = same_length rows in
    let i : slice_index_or (outcomes_of rows) k x ≡ x = outcome_at rows k x f ∙ ap (λ r. r.0) e in
    let b : is_before row.0 x ≡ true = subst (λ y. is_before row.0 y ≡ true) i (all_after row.0 (outcomes_of rows) a k x (omega arith)) in
    let z = ap (λ b. whole N row.1 * cond b 1 0) (after_differs row.0 x b) in
    record { sum = omega (arith, r.sum); positive = r.positive; exact = r.exact; in_lowest = r.in_lowest }

-- an outcome that counts has a row
row_of : (N : ℕ) (x : Outcome) (rows : Rows) → 0 < held N (here x) rows → (f : Fraction) × Contains rows (x, f)
row_of N x [] h = absurd (omega arith)
row_of N x (row ∷ rows) h = by (same_outcome x row.0) refl (λ k. row_of N x rows k)
  where
    by : (b : Bool) → same_outcome x row.0 ≡ b → (0 < held N (here x) rows → (f : Fraction) × Contains rows (x, f)) → (f : Fraction) × Contains (row ∷ rows) (x, f)
    by true p i = (row.1, (0, omega arith, ap (λ y. (y, row.1)) (sym (same_outcomes x row.0 p))))
    by false p i =
        let z = ap (λ b. whole N row.1 * cond b 1 0) p in
        let r = i (omega arith) in
        let l : r.1.0 < length rows = r.1.1 in
        (r.0, (suc r.1.0, omega arith, r.1.2))

-- ---- all rows
module _ (N : ℕ) (mass : (Outcome → Bool) → Fraction) (rows : Rows) (holds : HoldMasses N mass rows) (ascending : Ascending rows) (each : EachLowest rows) where
  abbrev mass_at : Outcome → Fraction
  mass_at x = mass (same_outcome x)

  record IsMass (x : Outcome) (f : Fraction) : Type 0 where
    pub positive : 0 < (mass_at x).0
    pub is : f ≡ lowest (mass_at x)

  is_mass : (x : Outcome) (f : Fraction) → Contains rows (x, f) → IsMass x f
  is_mass x f c =
      let r = row_at N x f rows c.0 c.1 c.2 ascending holds.kept each in
      let m = mass_at x in
      let q : m.1 * whole N f ≡ m.0 * N = ap (λ W. m.1 * W) (sym r.sum) ∙ holds.sums (same_outcome x) in
      let w = whole_pos N f holds.positive r.positive r.exact in
      record {
        positive = factor_pos N m.0 (m.1 * whole N f) (product_pos m.1 (whole N f) (holds.fraction (same_outcome x)) w) (let z : N * m.0 ≡ m.0 * N = omega arith in z ∙ sym q);
        is = lowest_is f m r.in_lowest (holds.fraction (same_outcome x)) (one_value N (whole N f) f m holds.positive r.exact.exact q);
      }

  has_row : (x : Outcome) → 0 < (mass_at x).0 → Contains rows (x, lowest (mass_at x))
  has_row x h =
      let m = mass_at x in
      let W = held N (here x) rows in
      let p : 0 < W = factor_pos m.1 W (m.0 * N) (product_pos m.0 N h holds.positive) (holds.sums (same_outcome x)) in
      let r = row_of N x rows p in
      subst (λ f. Contains rows (x, f)) (is_mass x r.0 r.1).is r.1

  pub are_masses : AreMasses mass_at rows
  are_masses = record { ascending = ascending; each = λ x f c. let m = is_mass x f c in (m.positive, m.is); all = has_row }

pub rows_are : (N : ℕ) (mass : (Outcome → Bool) → Fraction) (es rows : Rows) → rows ≡ es → HoldMasses N mass es → Ascending rows → EachLowest rows → AreMasses (λ x. mass (same_outcome x)) rows
rows_are N mass es rows p h a l = are_masses N mass rows (subst (HoldMasses N mass) (sym p) h) a l

pub if_rows : (N : ℕ) (mass : (Outcome → Bool) → Fraction) (es : Rows) (result : Result Rows MassError) → HoldMasses N mass es → IfOk result (λ rows. rows ≡ es) → IfOk result Ascending → IfOk result EachLowest →
    IfOk result (AreMasses (λ x. mass (same_outcome x)))
if_rows N mass es (Ok rows) h p a l = rows_are N mass es rows p h a l
if_rows N mass es (Err e) h p a l = tt
