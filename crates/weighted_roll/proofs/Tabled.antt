-- Columns that are laid out, read again.
use Rattle.std.proofs.Common.{◌≡◌, ⊎_elim, ℕ, zero, suc, ◌+◌, ◌-◌, ◌*◌, ◌≤◌, ◌<◌, Bool, true, false, List, [], ◌∷◌, ◌++◌, length, map, get_or, drop, append_assoc, append-nil, length-append, refl, sym, ap, subst, ◌∙◌, arith}
use Rattle.std.proofs.lemmas.Bool.{cases_lt, le-leb, lt-leb}
use Rattle.std.proofs.lemmas.List.{get_or-append-add}
use Rattle.std.specs.Prelude.{nat_le}
use Rattle.std.specs.List.{All}
use Rattle.weighted_roll.specs.declared.columns.Column.{Column}
use Rattle.weighted_roll.specs.declared.columns.Column.TheVariants.{Leaf, Rest}
use Rattle.weighted_roll.specs.Columns.{next_of, past_label, column}
use Rattle.weighted_roll.proofs.Passing.{rest_here}
use Rattle.weighted_roll.proofs.Walking.{all_next, length_next}
use Rattle.weighted_roll.specs.inner.Tables.{with_label, leaf_labels, after_flips, all_labels, all_ends}

-- ---- a column by its labels

one_found : (t : Bool) (i k : ℕ) (on : ℕ → Column) (labels : List ℕ) → ((k : ℕ) → k < length labels → on k ≡ Leaf (get_or labels k 0))
    → k < length (with_label t i labels) → past_label t i k on ≡ Leaf (get_or (with_label t i labels) k 0)
one_found true i zero on labels h lt = refl
one_found true i (suc k) on labels h lt = h k (let l : k < length labels = omega arith in l)
one_found false i k on labels h lt = h k lt

pub found : (b : ℕ) (rs : List ℕ) (i k : ℕ) → k < length (leaf_labels b rs i) → column b rs i k ≡ Leaf (get_or (leaf_labels b rs i) k 0)
found b [] i k lt = absurd (omega arith)
found b (r ∷ rs) i k lt = one_found (nat_le b (2 * r)) i k (column b rs (i + 1)) (leaf_labels b rs (i + 1)) (λ k lt. found b rs (i + 1) k lt) lt

one_passed : (t : Bool) (i k : ℕ) (on : ℕ → Column) (labels : List ℕ) → ((k : ℕ) → length labels ≤ k → on k ≡ Rest (k - length labels))
    → length (with_label t i labels) ≤ k → past_label t i k on ≡ Rest (k - length (with_label t i labels))
one_passed true i zero on labels h le = absurd (omega arith)
one_passed true i (suc k) on labels h le = h k (let l : length labels ≤ k = omega arith in l) ∙ ap Rest (let e : k - length labels ≡ suc k - suc (length labels) = omega arith in e)
one_passed false i k on labels h le = h k le

pub passed : (b : ℕ) (rs : List ℕ) (i k : ℕ) → length (leaf_labels b rs i) ≤ k → column b rs i k ≡ Rest (k - length (leaf_labels b rs i))
passed b [] i k le = ap Rest (let e : k ≡ k - 0 = omega arith in e)
passed b (r ∷ rs) i k le = one_passed (nat_le b (2 * r)) i k (column b rs (i + 1)) (leaf_labels b rs (i + 1)) (λ k le. passed b rs (i + 1) k le) le

-- ---- where the columns lie

ends_length : (b t : ℕ) (rs : List ℕ) → length (all_ends b t rs) ≡ t + 1
ends_length b zero rs = omega arith
ends_length b (suc t) rs = let i = ends_length b t rs in omega (arith, length-append (all_ends b t rs) (length (all_labels b (suc t) rs) ∷ []))

labels_grow : (b t d : ℕ) (rs : List ℕ) → length (all_labels b t rs) ≤ length (all_labels b (t + d) rs)
labels_grow b t zero rs = let e : t + 0 ≡ t = omega arith in let p = ap (λ n. length (all_labels b n rs)) e in omega arith
labels_grow b t (suc d) rs =
    let e : t + suc d ≡ suc (t + d) = omega arith in
    let p = ap (λ n. length (all_labels b n rs)) e in
    let i = labels_grow b t d rs in
    omega (arith, length-append (all_labels b (t + d) rs) (leaf_labels b (after_flips b (t + d) rs) 0))

get_or-left : (xs ys : List ℕ) (n : ℕ) → n < length xs → get_or (xs ++ ys) n 0 ≡ get_or xs n 0
get_or-left [] ys n lt = absurd (omega arith)
get_or-left (x ∷ xs) ys zero lt = refl
get_or-left (x ∷ xs) ys (suc n) lt = get_or-left xs ys n (let l : n < length xs = omega arith in l)

get_or-last : (xs : List ℕ) (y n : ℕ) → n ≡ length xs → get_or (xs ++ y ∷ []) n 0 ≡ y
get_or-last xs y n e =
    ap (λ n. get_or (xs ++ y ∷ []) n 0) (let f : n ≡ length xs + 0 = omega arith in f) ∙ get_or-append-add xs (y ∷ []) 0 0

pub end_at : (b d t : ℕ) (rs : List ℕ) → t ≤ d → get_or (all_ends b d rs) t 0 ≡ length (all_labels b t rs)
end_at b zero t rs le = let z : t ≡ 0 = omega arith in ap (λ t. get_or (0 ∷ []) t 0) z ∙ sym (ap (λ t. length (all_labels b t rs)) z)
end_at b (suc d) t rs le =
    ⊎_elim
    (λ (lt : t < suc d).
    get_or-left (all_ends b d rs) (length (all_labels b (suc d) rs) ∷ []) t (omega (arith, ends_length b d rs))
    ∙ end_at b d t rs (let l : t ≤ d = omega arith in l))
    (λ (ge : suc d ≤ t).
    let e : t ≡ suc d = omega arith in
    get_or-last (all_ends b d rs) (length (all_labels b (suc d) rs)) t (omega (arith, ends_length b d rs)) ∙ sym (ap (λ t. length (all_labels b t rs)) e))
    (cases_lt t (suc d))

pub label_from : (b d t k : ℕ) (rs : List ℕ) → t < d → k < length (leaf_labels b (after_flips b t rs) 0)
    → get_or (all_labels b d rs) (length (all_labels b t rs) + k) 0 ≡ get_or (leaf_labels b (after_flips b t rs) 0) k 0
label_from b zero t k rs lt in' = absurd (omega arith)
label_from b (suc d) t k rs lt in' =
    ⊎_elim
    (λ (less : t < d).
    let n : suc t + (d - suc t) ≡ d = omega arith in
    let g = labels_grow b (suc t) (d - suc t) rs in
    let p = ap (λ n. length (all_labels b n rs)) n in
    let a = length-append (all_labels b t rs) (leaf_labels b (after_flips b t rs) 0) in
    get_or-left (all_labels b d rs) (leaf_labels b (after_flips b d rs) 0) (length (all_labels b t rs) + k) (omega arith)
    ∙ label_from b d t k rs less in')
    (λ (ge : d ≤ t).
    let e : d ≡ t = omega arith in
    subst (λ m. get_or (all_labels b m rs ++ leaf_labels b (after_flips b m rs) 0) (length (all_labels b t rs) + k) 0 ≡ get_or (leaf_labels b (after_flips b t rs) 0) k 0)
    (sym e) (get_or-append-add (all_labels b t rs) (leaf_labels b (after_flips b t rs) 0) k 0))
    (cases_lt t d)

-- ---- as the code reads them
module _ (b d t : ℕ) (rs labels ends : List ℕ) (has : labels ≡ all_labels b d rs) (at : ends ≡ all_ends b d rs) (lt : t < d) where
  pub start_is : get_or ends t 0 ≡ length (all_labels b t rs)
  start_is = ap (λ e. get_or e t 0) at ∙ end_at b d t rs (let l : t ≤ d = omega arith in l)

  pub end_is : get_or ends (t + 1) 0 ≡ length (all_labels b t rs) + length (leaf_labels b (after_flips b t rs) 0)
  end_is =
      let one : t + 1 ≡ suc t = omega arith in
      ap (λ e. get_or e (t + 1) 0) at ∙ ap (λ t. get_or (all_ends b d rs) t 0) one ∙ end_at b d (suc t) rs (let l : suc t ≤ d = omega arith in l)
      ∙ length-append (all_labels b t rs) (leaf_labels b (after_flips b t rs) 0)

  pub ends_fit : t + 1 < length ends
  ends_fit = let e = ap length at in omega (arith, ends_length b d rs)

  pub end_fits : get_or ends (t + 1) 0 ≤ length labels
  end_fits =
      let n : suc t + (d - suc t) ≡ d = omega arith in
      let g = labels_grow b (suc t) (d - suc t) rs in
      let p = ap (λ n. length (all_labels b n rs)) n in
      let a = length-append (all_labels b t rs) (leaf_labels b (after_flips b t rs) 0) in
      let e = ap length has in
      let f = end_is in
      omega arith

  pub column_found : (k : ℕ) → k < get_or ends (t + 1) 0 - get_or ends t 0 → column b (after_flips b t rs) 0 k ≡ Leaf (get_or labels (get_or ends t 0 + k) 0)
  column_found k in' =
      let s = start_is in
      let e = end_is in
      let l : k < length (leaf_labels b (after_flips b t rs) 0) = omega arith in
      found b (after_flips b t rs) 0 k l
      ∙ ap Leaf (sym (ap (λ n. get_or labels (n + k) 0) s ∙ ap (λ x. get_or x (length (all_labels b t rs) + k) 0) has ∙ label_from b d t k rs lt l))

  pub column_passed_by : (k : ℕ) → get_or ends (t + 1) 0 - get_or ends t 0 ≤ k → column b (after_flips b t rs) 0 k ≡ Rest (k - (get_or ends (t + 1) 0 - get_or ends t 0))
  column_passed_by k ge =
      let s = start_is in
      let e = end_is in
      let l : length (leaf_labels b (after_flips b t rs) 0) ≤ k = omega arith in
      passed b (after_flips b t rs) 0 k l
      ∙ ap Rest (let q : k - length (leaf_labels b (after_flips b t rs) 0) ≡ k - (get_or ends (t + 1) 0 - get_or ends t 0) = omega arith in q)

-- ---- as the code lays them out

pub after_small : (b t : ℕ) (rs : List ℕ) → All (λ r. r < b) rs → All (λ r. r < b) (after_flips b t rs)
after_small b zero rs h = h
after_small b (suc t) rs h = all_next b (after_flips b t rs) (after_small b t rs h)

pub after_long : (b t : ℕ) (rs : List ℕ) → length (after_flips b t rs) ≡ length rs
after_long b zero rs = refl
after_long b (suc t) rs = length_next b (after_flips b t rs) ∙ after_long b t rs

pub after_one : (b t : ℕ) (rs x y : List ℕ) → x ≡ after_flips b t rs → y ≡ map (next_of b) x → y ≡ after_flips b (t + 1) rs
after_one b t rs x y e f = f ∙ ap (map (next_of b)) e ∙ ap (λ n. after_flips b n rs) (let one : suc t ≡ t + 1 = omega arith in one)

module _ (b i : ℕ) (s before labels : List ℕ) (p : labels ++ leaf_labels b (drop i s) i ≡ before ++ leaf_labels b s 0) (lt : i < length s) where
  pub pushed_leaf : (labels' : List ℕ) → b ≤ 2 * get_or s i 0 → labels' ≡ labels ++ i ∷ [] → labels' ++ leaf_labels b (drop (i + 1) s) (i + 1) ≡ before ++ leaf_labels b s 0
  pushed_leaf labels' le e =
      let rest = leaf_labels b (drop (i + 1) s) (i + 1) in
      ap (λ l. l ++ rest) e ∙ append_assoc labels (i ∷ []) rest
      ∙ ap (λ l. labels ++ l) (sym (here (sym (ap (λ n. drop n s) (let one : suc i ≡ i + 1 = omega arith in one))))) ∙ p
    where
      here : drop (i + 1) s ≡ drop (suc i) s → leaf_labels b (drop i s) i ≡ i ∷ leaf_labels b (drop (i + 1) s) (i + 1)
      here d =
          ap (λ l. leaf_labels b l i) (rest_here s i lt)
          ∙ ap (λ t. with_label t i (leaf_labels b (drop (suc i) s) (i + 1))) (le-leb _ _ le)
          ∙ ap (λ l. i ∷ leaf_labels b l (i + 1)) (sym d)

  pub pushed_none : (labels' : List ℕ) → 2 * get_or s i 0 < b → labels' ≡ labels → labels' ++ leaf_labels b (drop (i + 1) s) (i + 1) ≡ before ++ leaf_labels b s 0
  pushed_none labels' low e =
      let rest = leaf_labels b (drop (i + 1) s) (i + 1) in
      ap (λ l. l ++ rest) e
      ∙ ap (λ l. labels ++ l) (sym (here (sym (ap (λ n. drop n s) (let one : suc i ≡ i + 1 = omega arith in one))))) ∙ p
    where
      here : drop (i + 1) s ≡ drop (suc i) s → leaf_labels b (drop i s) i ≡ leaf_labels b (drop (i + 1) s) (i + 1)
      here d =
          ap (λ l. leaf_labels b l i) (rest_here s i lt)
          ∙ ap (λ t. with_label t i (leaf_labels b (drop (suc i) s) (i + 1))) (lt-leb _ _ low)
          ∙ ap (λ l. leaf_labels b l (i + 1)) (sym d)

drop_end : (n : ℕ) (s : List ℕ) → length s ≤ n → drop n s ≡ []
drop_end zero [] le = refl
drop_end (suc n) [] le = refl
drop_end zero (x ∷ s) le = absurd (omega arith)
drop_end (suc n) (x ∷ s) le = drop_end n s (let l : length s ≤ n = omega arith in l)

pub pushed_all : (b i : ℕ) (s before labels : List ℕ) → labels ++ leaf_labels b (drop i s) i ≡ before ++ leaf_labels b s 0 → length s ≤ i → labels ≡ before ++ leaf_labels b s 0
pushed_all b i s before labels p le = sym (append-nil labels) ∙ ap (λ l. labels ++ leaf_labels b l i) (sym (drop_end i s le)) ∙ p
