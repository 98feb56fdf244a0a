-- The rows of an audit are exactly the weights above 0.
use Rattle.std.proofs.Common.{◌≡◌, ℕ, zero, suc, ◌<◌, Bool, true, false, List, [], ◌∷◌, length, get_or, refl, sym, ap, ◌∙◌, subst, arith}
use Rattle.std.specs.Prelude.{if◌then◌else◌, AllPairs, Contains}
use Rattle.std.proofs.lemmas.List.Kept.{AllPairs-cons}
use Rattle.gcl_core.specs.declared.answers.Answer.{Answer}
use Rattle.gcl_core.specs.declared.answers.Outcome.{Outcome}
use Rattle.gcl_core.specs.meaning.Outcomes.{same_outcome}
use Rattle.gcl_core.specs.weighing.StringWeight.{outcome_weight}
use Rattle.gcl_core.specs.meaning.Order.{is_before}
use Rattle.gcl_core.proofs.OutcomeOrder.{before_differs, after_differs}
use Rattle.gcl_core.proofs.SameOutcomes.{same_outcomes, outcome_itself}
use Rattle.audit_walk.specs.Rows.{Rows, row_count, IsBeforeAll, Ascend, AreAboveZero, IsRows}
use Rattle.audit_walk.specs.Audited.{IsAuditOf}
use Rattle.audit_walk.specs.inner.Counts.{IsCountOf}

-- an outcome before all rows has none
none_after : (x : Outcome) (rows : Rows) → IsBeforeAll x rows → row_count x rows ≡ 0
none_after x [] h = refl
none_after x (r ∷ rows) h =
    let e = ap (λ (t : Bool). if t then r.1 else 0) (before_differs x r.0 h.0) in
    let f = none_after x rows h.1 in
    omega arith

-- ---- a row has the count of its outcome

before_at : (a : Outcome) (rows : Rows) (k : ℕ) (d : Outcome × ℕ) → k < length rows → IsBeforeAll a rows →
    is_before a (get_or rows k d).0 ≡ true
before_at a [] k d lt h = absurd (omega arith)
before_at a (r ∷ rows) zero d lt h = h.0
before_at a (r ∷ rows) (suc k) d lt h = before_at a rows k d (omega arith) h.1

counted_at : (rows : Rows) (k : ℕ) (d : Outcome × ℕ) → k < length rows → Ascend rows →
    row_count (get_or rows k d).0 rows ≡ (get_or rows k d).1
counted_at [] k d lt up = absurd (omega arith)
counted_at (r ∷ rows) zero d lt up =
    let e = ap (λ (t : Bool). if t then r.1 else 0) (outcome_itself r.0) in
    let f = none_after r.0 rows up.0 in
    omega arith
counted_at (r ∷ rows) (suc k) d lt up =
    let e = ap (λ (t : Bool). if t then r.1 else 0) (after_differs r.0 (get_or rows k d).0 (before_at r.0 rows k d (omega arith) up.0)) in
    let f = counted_at rows k d (omega arith) up.1 in
    omega arith

above_at : (rows : Rows) (k : ℕ) (d : Outcome × ℕ) → k < length rows → AreAboveZero rows → 0 < (get_or rows k d).1
above_at [] k d lt h = absurd (omega arith)
above_at (r ∷ rows) zero d lt h = h.0
above_at (r ∷ rows) (suc k) d lt h = above_at rows k d (omega arith) h.1

row_is : (rows : Rows) (x : Outcome) (n : ℕ) → IsRows rows → Contains rows (x, n) → (n ≡ row_count x rows) × (0 < n)
row_is rows x n h c =
    let e = c.2 in (
      ap (λ (r : Outcome × ℕ). r.1) (sym e) ∙ sym (counted_at rows c.0 (x, n) c.1 h.ascending) ∙ ap (λ (r : Outcome × ℕ). row_count r.0 rows) e,
      subst (λ (r : Outcome × ℕ). 0 < r.1) e (above_at rows c.0 (x, n) c.1 h.above_zero),
    )

-- ---- an outcome that counts has a row

there_by : (r : Outcome × ℕ) (rows : Rows) (x : Outcome) (n : ℕ) (t : Bool) → same_outcome x r.0 ≡ t → IsBeforeAll r.0 rows →
    n ≡ row_count x (r ∷ rows) →
    (n ≡ row_count x rows → Contains rows (x, n)) → Contains (r ∷ rows) (x, n)
there_by r rows x n true e b f more =
    let s : x ≡ r.0 = same_outcomes x r.0 e in
    let z : row_count x rows ≡ 0 = ap (λ y. row_count y rows) s ∙ none_after r.0 rows b in
    let g = ap (λ (t : Bool). if t then r.1 else 0) e in
    let m : r.1 ≡ n = omega arith in
    (0, omega arith, ap (λ y. (y, r.1)) (sym s) ∙ ap (λ k. (x, k)) m)
there_by r rows x n false e b f more =
    let g = ap (λ (t : Bool). if t then r.1 else 0) e in
    let c = more (omega arith) in
    (suc c.0, let lt = c.1 in omega arith, c.2)

row_there : (rows : Rows) (x : Outcome) (n : ℕ) → Ascend rows → n ≡ row_count x rows → 0 < n → Contains rows (x, n)
row_there [] x n up e lt = absurd (omega arith)
row_there (r ∷ rows) x n up e lt = there_by r rows x n (same_outcome x r.0) refl up.0 e (λ f. row_there rows x n up.1 f lt)

-- ---- outcomes ascend

ascending_pairs : (rows : Rows) → Ascend rows → AllPairs (λ r s. is_before r.0 s.0 ≡ true) rows
ascending_pairs [] up = λ i j d lt within. absurd (omega arith)
ascending_pairs (r ∷ rows) up =
    AllPairs-cons (λ r s. is_before r.0 s.0 ≡ true) r rows (λ k d lt. before_at r.0 rows k d lt up.0) (ascending_pairs rows up.1)

before_all : (x : Outcome) (rows : Rows) → ((k : ℕ) (d : Outcome × ℕ) → k < length rows → is_before x (get_or rows k d).0 ≡ true) → IsBeforeAll x rows
before_all x [] h = tt
before_all x (r ∷ rows) h = (h zero r (omega arith), before_all x rows (λ k d lt. h (suc k) d (omega arith)))

ascend : (rows : Rows) → AllPairs (λ r s. is_before r.0 s.0 ≡ true) rows → Ascend rows
ascend [] up = tt
ascend (r ∷ rows) up = (
  before_all r.0 rows (λ k d lt. up zero (suc k) d (omega arith) (omega arith)),
  ascend rows (λ i j d lt within. up (suc i) (suc j) d (omega arith) (omega arith)),
)

-- ---- the audit

pub exact_audit : (run : List Bool → Answer) (h : ℕ) (rows : Rows) (n : ℕ) → IsRows rows → IsCountOf run h rows n → IsAuditOf run h rows n
exact_audit run h rows n ordered c = record {
  ascending = ascending_pairs rows ordered.ascending;
  exact = λ x k. (
    λ there. let r = row_is rows x k ordered there in (r.0 ∙ c.weights x, r.1),
    λ is. row_there rows x k ordered.ascending (is.0 ∙ sym (c.weights x)) is.1,
  );
  undecided_is = c.undecided_is;
}

-- what the rows of an outcome count is its weight, where it has one and where it has none
module _ (run : List Bool → Answer) (h : ℕ) (rows : Rows) (n : ℕ) (a : IsAuditOf run h rows n) (x : Outcome) where
  counted : (k w : ℕ) → row_count x rows ≡ k → outcome_weight run x h ≡ w → row_count x rows ≡ outcome_weight run x h
  counted (suc k) w e f = e ∙ ((a.exact x (suc k)).0 (row_there rows x (suc k) (ascend rows a.ascending) (sym e) (omega arith))).0
  counted zero zero e f = e ∙ sym f
  counted zero (suc w) e f =
      let there = (a.exact x (suc w)).1 (sym f, omega arith) in
      subst (λ (r : Outcome × ℕ). row_count r.0 rows ≡ r.1) there.2 (counted_at rows there.0 (x, suc w) there.1 (ascend rows a.ascending)) ∙ sym f

  pub weight_of : row_count x rows ≡ outcome_weight run x h
  weight_of = counted (row_count x rows) (outcome_weight run x h) refl refl
