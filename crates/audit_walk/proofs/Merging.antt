-- Two lists of rows, merged from their fronts.
use Rattle.std.proofs.Common.{◌≡◌, ℕ, ◌+◌, Bool, true, false, [], ◌∷◌, ◌++◌, length, append_assoc, refl, sym, ap, ◌∙◌, subst, arith}
use Rattle.std.specs.Prelude.{if◌then◌else◌}
use Rattle.gcl_core.specs.declared.answers.Outcome.{Outcome}
use Rattle.gcl_core.specs.meaning.Outcomes.{same_outcome}
use Rattle.gcl_core.specs.meaning.Order.{is_before}
use Rattle.gcl_core.proofs.OutcomeOrder.{before_trans}
use Rattle.audit_walk.specs.Rows.{Rows, row_count, sum_of_counts, IsBeforeAll, Ascend, AreAboveZero, IsRows}
use Rattle.audit_walk.specs.inner.Sums.{AddsUp}

-- ---- the order

pub before_all_from : (a b : Outcome) (rows : Rows) → is_before a b ≡ true → IsBeforeAll b rows → IsBeforeAll a rows
before_all_from a b [] h i = tt
before_all_from a b (r ∷ rows) h i = (before_trans a b r.0 h i.0, before_all_from a b rows h i.1)

-- ---- sums

pub counted_append : (x : Outcome) (a b : Rows) → row_count x (a ++ b) ≡ row_count x a + row_count x b
counted_append x [] b = omega arith
counted_append x (r ∷ a) b = let h = counted_append x a b in omega arith

pub total_append : (a b : Rows) → sum_of_counts (a ++ b) ≡ sum_of_counts a + sum_of_counts b
total_append [] b = omega arith
total_append (r ∷ a) b = let h = total_append a b in omega arith

above_append : (a b : Rows) → AreAboveZero a → AreAboveZero b → AreAboveZero (a ++ b)
above_append [] b h i = i
above_append (r ∷ a) b h i = (h.0, above_append a b h.1 i)

-- ---- rows that ascend

before_put : (q r : Outcome × ℕ) (out x y : Rows) → IsBeforeAll q.0 (out ++ r ∷ x) → IsBeforeAll q.0 (out ++ y) →
    IsBeforeAll q.0 (out ++ r ∷ y)
before_put q r [] x y h i = (h.0, i)
before_put q r (p ∷ out) x y h i = (h.0, before_put q r out x y h.1 i.1)

ascend_put : (r : Outcome × ℕ) (out x y : Rows) → Ascend (out ++ r ∷ x) → Ascend (out ++ y) → IsBeforeAll r.0 y → Ascend (out ++ r ∷ y)
ascend_put r [] x y h i b = (b, i)
ascend_put r (q ∷ out) x y h i b = (before_put q r out x y h.0 i.0, ascend_put r out x y h.1 i.1 b)

ascend_back : (out y : Rows) → Ascend (out ++ y) → Ascend y
ascend_back [] y h = h
ascend_back (r ∷ out) y h = ascend_back out y h.1

before_same : (k : Outcome) (r q : Outcome × ℕ) (out x : Rows) → q.0 ≡ r.0 → IsBeforeAll k (out ++ r ∷ x) → IsBeforeAll k (out ++ q ∷ x)
before_same k r q [] x e h = (ap (is_before k) e ∙ h.0, h.1)
before_same k r q (p ∷ out) x e h = (h.0, before_same k r q out x e h.1)

ascend_same : (r q : Outcome × ℕ) (out x : Rows) → q.0 ≡ r.0 → Ascend (out ++ r ∷ x) → Ascend (out ++ q ∷ x)
ascend_same r q [] x e h = (subst (λ k. IsBeforeAll k x) (sym e) h.0, h.1)
ascend_same r q (p ∷ out) x e h = (before_same p.0 r q out x e h.0, ascend_same r q out x e h.1)

-- ---- rows that were put out, and what is left of the two lists

pub record Merging (a b out x y : Rows) : Type 0 where
  pub each : (o : Outcome) → row_count o out + (row_count o x + row_count o y) ≡ row_count o a + row_count o b
  pub all : sum_of_counts out + (sum_of_counts x + sum_of_counts y) ≡ sum_of_counts a + sum_of_counts b
  pub left : Ascend (out ++ x)
  pub right : Ascend (out ++ y)
  pub above_out : AreAboveZero out
  pub above_left : AreAboveZero x
  pub above_right : AreAboveZero y

-- a row before all that are left
next : (out x : Rows) (r : Outcome × ℕ) → (out ++ r ∷ []) ++ x ≡ out ++ r ∷ x
next out x r = append_assoc out (r ∷ []) x

pub merging_left : (a b out x y : Rows) (r s : Outcome × ℕ) → is_before r.0 s.0 ≡ true → Merging a b out (r ∷ x) (s ∷ y) →
    Merging a b (out ++ r ∷ []) x (s ∷ y)
merging_left a b out x y r s lt m = record {
  each = λ o. let h = m.each o in let e = counted_append o out (r ∷ []) in omega arith;
  all = let h = m.all in let e = total_append out (r ∷ []) in omega arith;
  left = subst Ascend (sym (next out x r)) m.left;
  right = subst Ascend (sym (next out (s ∷ y) r))
      (ascend_put r out x (s ∷ y) m.left m.right (lt, before_all_from r.0 s.0 y lt (ascend_back out (s ∷ y) m.right).0));
  above_out = above_append out (r ∷ []) m.above_out (m.above_left.0, tt);
  above_left = m.above_left.1;
  above_right = m.above_right;
}

pub merging_right : (a b out x y : Rows) (r s : Outcome × ℕ) → is_before s.0 r.0 ≡ true → Merging a b out (r ∷ x) (s ∷ y) →
    Merging a b (out ++ s ∷ []) (r ∷ x) y
merging_right a b out x y r s lt m = record {
  each = λ o. let h = m.each o in let e = counted_append o out (s ∷ []) in omega arith;
  all = let h = m.all in let e = total_append out (s ∷ []) in omega arith;
  left = subst Ascend (sym (next out (r ∷ x) s))
      (ascend_put s out y (r ∷ x) m.right m.left (lt, before_all_from s.0 r.0 x lt (ascend_back out (r ∷ x) m.left).0));
  right = subst Ascend (sym (next out y s)) m.right;
  above_out = above_append out (s ∷ []) m.above_out (m.above_right.0, tt);
  above_left = m.above_left;
  above_right = m.above_right.1;
}

both_count : (t : Bool) (n k : ℕ) → (if t then n + k else 0) ≡ (if t then n else 0) + (if t then k else 0)
both_count true n k = refl
both_count false n k = refl

pub merging_both : (a b out x y : Rows) (r s : Outcome × ℕ) → r.0 ≡ s.0 → Merging a b out (r ∷ x) (s ∷ y) →
    Merging a b (out ++ (r.0, r.1 + s.1) ∷ []) x y
merging_both a b out x y r s same m = record {
  each = λ o.
      let h = m.each o in
      let e = counted_append o out ((r.0, r.1 + s.1) ∷ []) in
      let f = both_count (same_outcome o r.0) r.1 s.1 in
      let g = ap (λ k. if same_outcome o k then s.1 else 0) same in
      omega arith;
  all = let h = m.all in let e = total_append out ((r.0, r.1 + s.1) ∷ []) in omega arith;
  left = subst Ascend (sym (next out x (r.0, r.1 + s.1))) (ascend_same r (r.0, r.1 + s.1) out x refl m.left);
  right = subst Ascend (sym (next out y (r.0, r.1 + s.1))) (ascend_same s (r.0, r.1 + s.1) out y same m.right);
  above_out = above_append out ((r.0, r.1 + s.1) ∷ []) m.above_out (let h = m.above_left.0 in omega arith, tt);
  above_left = m.above_left.1;
  above_right = m.above_right.1;
}

-- ---- one of the two is empty

pub merged_right : (a b out y : Rows) → Merging a b out [] y → IsRows (out ++ y) × AddsUp a b (out ++ y)
merged_right a b out y m = (
  record { ascending = m.right; above_zero = above_append out y m.above_out m.above_right },
  record {
    each = λ o. let h = m.each o in let e = counted_append o out y in omega arith;
    all = let h = m.all in let e = total_append out y in omega arith;
  },
)

pub merged_left : (a b out x : Rows) → Merging a b out x [] → IsRows (out ++ x) × AddsUp a b (out ++ x)
merged_left a b out x m = (
  record { ascending = m.left; above_zero = above_append out x m.above_out m.above_left },
  record {
    each = λ o. let h = m.each o in let e = counted_append o out x in omega arith;
    all = let h = m.all in let e = total_append out x in omega arith;
  },
)

-- ---- by what a step tells

pub merge_less : (a b out l r new : Rows) (x y : Outcome × ℕ) (xs ys : Rows) → Merging a b out l r → l ≡ x ∷ xs → r ≡ y ∷ ys →
    is_before x.0 y.0 ≡ true → new ≡ out ++ x ∷ [] →
    Merging a b new xs r
merge_less a b out l r new x y xs ys m e f lt n =
    let h = subst (λ l. Merging a b out l r) e m in
    let i = subst (λ r. Merging a b out (x ∷ xs) r) f h in
    subst (λ r. Merging a b new xs r) (sym f) (subst (λ o. Merging a b o xs (y ∷ ys)) (sym n) (merging_left a b out xs ys x y lt i))

pub merge_greater : (a b out l r new : Rows) (x y : Outcome × ℕ) (xs ys : Rows) → Merging a b out l r → l ≡ x ∷ xs → r ≡ y ∷ ys →
    is_before y.0 x.0 ≡ true → new ≡ out ++ y ∷ [] →
    Merging a b new l ys
merge_greater a b out l r new x y xs ys m e f lt n =
    let h = subst (λ l. Merging a b out l r) e m in
    let i = subst (λ r. Merging a b out (x ∷ xs) r) f h in
    subst (λ l. Merging a b new l ys) (sym e) (subst (λ o. Merging a b o (x ∷ xs) ys) (sym n) (merging_right a b out xs ys x y lt i))

pub merge_equal : (a b out l r new : Rows) (x y : Outcome × ℕ) (xs ys : Rows) → Merging a b out l r → l ≡ x ∷ xs → r ≡ y ∷ ys → x.0 ≡ y.0 →
    new ≡ out ++ (x.0, x.1 + y.1) ∷ [] →
    Merging a b new xs ys
merge_equal a b out l r new x y xs ys m e f same n =
    let h = subst (λ l. Merging a b out l r) e m in
    let i = subst (λ r. Merging a b out (x ∷ xs) r) f h in
    subst (λ o. Merging a b o xs ys) (sym n) (merging_both a b out xs ys x y same i)

none_left : (l : Rows) → length l ≡ 0 → l ≡ []
none_left [] e = refl
none_left (r ∷ l) e = absurd (omega arith)

pub end_right : (a b out l r new : Rows) → Merging a b out l r → length l ≡ 0 → new ≡ out ++ r → IsRows new × AddsUp a b new
end_right a b out l r new m e n = subst (λ o. IsRows o × AddsUp a b o) (sym n) (merged_right a b out r (subst (λ l. Merging a b out l r) (none_left l e) m))

pub end_left : (a b out l r new : Rows) → Merging a b out l r → length r ≡ 0 → new ≡ out ++ l → IsRows new × AddsUp a b new
end_left a b out l r new m e n = subst (λ o. IsRows o × AddsUp a b o) (sym n) (merged_left a b out l (subst (λ r. Merging a b out l r) (none_left r e) m))
