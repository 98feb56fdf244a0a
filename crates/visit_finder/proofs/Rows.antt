-- Rows whose entries are moved, one after the other, at the moduli.
use Rattle.std.proofs.Common.{◌≡◌, ◌⊎◌, inl, inr, ℕ, zero, suc, ◌+◌, ◌*◌, ◌^◌, ◌<◌, List, [], ◌∷◌, ◌++◌, length, drop, drop-cons, get_or, add-one, refl, sym, ap, ◌∙◌, subst, arith}
use Rattle.std.specs.Prelude.{Contains}
use Rattle.std.proofs.lemmas.List.Elements.{Contains-append_left, Contains-append_right, Contains-append_cases}
use Rattle.narrow_fractions.specs.Remainders.{Same}
use Rattle.narrow_fractions.proofs.Congruence.{equal, turned, chained, added, times, product}
use Rattle.visit_finder.specs.declared.residues.Moduli.{Moduli}
use Rattle.visit_finder.specs.declared.residues.Residues.{Residues}
use Rattle.visit_finder.specs.Equations.{AllForms}
use Rattle.visit_finder.specs.Places.{modulus, form_at, AreAt, AreForms}
use Rattle.visit_finder.specs.inner.Columns.{row_at}
use Rattle.visit_finder.proofs.Entries.{first_is, later, none_in}

abbrev pub Row : Type 0
Row = List (ℕ × Residues)

-- ---- members

pub only_in : {X : Type 0} (x y : X) → Contains (x ∷ []) y → x ≡ y
only_in x y (zero, l, e) = e
only_in x y (suc k, l, e) = absurd (omega arith)

pub one_step : (row : Row) (at : ℕ) (d : ℕ × Residues) → at < length row → drop at row ≡ get_or row at d ∷ drop (at + 1) row
one_step row at d h = drop-cons row at d h ∙ ap (λ n. get_or row at d ∷ drop n row) (sym (add-one at))

-- ---- forms

pub forms_pushed : (moduli : Moduli) (xs : Row) (s : ℕ) (r : Residues) → AllForms moduli xs → AreForms moduli r → AllForms moduli (xs ++ (s, r) ∷ [])
forms_pushed moduli xs s r all here k q h = by (Contains-append_cases xs ((s, r) ∷ []) (k, q) h)
  where
    by : Contains {X = ℕ × Residues} xs (k, q) ⊎ Contains {X = ℕ × Residues} ((s, r) ∷ []) (k, q) → AreForms moduli q
    by (inl before) = all k q before
    by (inr last) = subst (λ e. AreForms moduli e.1) (only_in (s, r) (k, q) last) here

pub forms_first : (moduli : Moduli) (s : ℕ) (r : Residues) (rest : Row) → AllForms moduli ((s, r) ∷ rest) → AreForms moduli r × AllForms moduli rest
forms_first moduli s r rest all = (all s r (first_is (s, r) rest), λ k q h. all k q (later (s, r) rest (k, q) h))

pub no_forms : (moduli : Moduli) → AllForms {K = ℕ} moduli []
no_forms moduli k r h = absurd (none_in (k, r) h)

-- ---- sums

pub row_both : (place : ℕ) (xs ys : Row) (v : ℕ → ℕ) → row_at place (xs ++ ys) v ≡ row_at place xs v + row_at place ys v
row_both place [] ys v = omega arith
row_both place (x ∷ xs) ys v = let e = row_both place xs ys v in omega arith

pub row_pushed : (place : ℕ) (xs : Row) (s : ℕ) (r : Residues) (v : ℕ → ℕ) → row_at place (xs ++ (s, r) ∷ []) v ≡ row_at place xs v + form_at place r * v s
row_pushed place xs s r v = let e = row_both place xs ((s, r) ∷ []) v in omega arith

-- ---- a row without a state

-- the part of the state so far, what is put by, and what is left of the row
pub record Without (moduli : Moduli) (state : ℕ) (row : Row) (part : Residues) (others rest : Row) : Type 0 where
  pub over : AreForms moduli part
  pub put_by : AllForms moduli others
  pub left : AllForms moduli rest
  pub sum : (place : ℕ) → place < 5 → (v : ℕ → ℕ) →
      Same (modulus moduli place) (row_at place row v) (form_at place part * v state + (row_at place others v + row_at place rest v))

pub none_without : (moduli : Moduli) (state : ℕ) (row : Row) (part : Residues) → ((place : ℕ) → place < 5 → AreAt moduli place part 0) → AllForms moduli row → Without moduli state row part [] row
none_without moduli state row part nothing all = record {
  over = λ place within. (nothing place within).0;
  put_by = no_forms moduli;
  left = all;
  sum = λ place within v.
      let m = modulus moduli place in
      chained m _ _ _ (equal m _ (0 * v state + row_at place row v) (omega arith))
      (chained m _ _ _ (added m _ _ _ _ (product m _ _ (v state) (v state) (chained m 0 _ _ (equal m 0 _ (omega arith)) (turned m _ _ (nothing place within).1)) (equal m _ _ refl)) (equal m _ _ refl)) (equal m _ _ (omega arith)));
}

pub another_without : (moduli : Moduli) (state : ℕ) (row : Row) (part : Residues) (others rest : Row) (s : ℕ) (r : Residues)
    → Without moduli state row part others ((s, r) ∷ rest) → Without moduli state row part (others ++ (s, r) ∷ []) rest
another_without moduli state row part others rest s r h =
    let first = forms_first moduli s r rest h.left in record {
      over = h.over;
      put_by = forms_pushed moduli others s r h.put_by first.0;
      left = first.1;
      sum = λ place within v. let e = row_pushed place others s r v in
          chained (modulus moduli place) _ _ _ (h.sum place within v) (equal (modulus moduli place) _ _ (omega (arith, e)));
    }

pub part_without : (moduli : Moduli) (state : ℕ) (row : Row) (part : Residues) (others rest : Row) (s : ℕ) (r more : Residues) → s ≡ state
    → ((place : ℕ) → place < 5 → form_at place part < modulus moduli place → form_at place r < modulus moduli place →
    (form_at place more < modulus moduli place) × Same (modulus moduli place) (form_at place more) (form_at place part + form_at place r))
    → Without moduli state row part others ((s, r) ∷ rest) → Without moduli state row more others rest
part_without moduli state row part others rest s r more is clause h =
    let first = forms_first moduli s r rest h.left in
    let both = λ (place : ℕ) (within : place < 5). clause place within (h.over place within) (first.0 place within) in record {
      over = λ place within. (both place within).0;
      put_by = h.put_by;
      left = first.1;
      sum = λ place within v.
          let m = modulus moduli place in
          let e = ap (λ s. form_at place r * v s) is in
          chained m _ _ _ (h.sum place within v)
          (chained m _ _ _ (equal m _ ((form_at place part + form_at place r) * v state + (row_at place others v + row_at place rest v)) (omega (arith, e)))
          (added m _ _ _ _ (product m _ _ (v state) (v state) (turned m _ _ (both place within).1) (equal m _ _ refl)) (equal m _ _ refl)));
    }

-- ---- a row, and so many times another

-- what is put by together with what is left of the row, and what is left of the other
pub record Joined (moduli : Moduli) (factor : Residues) (row other put rest : Row) : Type 0 where
  pub put_by : AllForms moduli put
  pub left : AllForms moduli rest
  pub sum : (place : ℕ) → place < 5 → (v : ℕ → ℕ) → Same (modulus moduli place)
      (2 ^ 64 * row_at place put v + form_at place factor * row_at place rest v) (2 ^ 64 * row_at place row v + form_at place factor * row_at place other v)

pub none_joined : (moduli : Moduli) (factor : Residues) (row other : Row) → AllForms moduli row → AllForms moduli other → Joined moduli factor row other row other
none_joined moduli factor row other first second = record { put_by = first; left = second; sum = λ place within v. equal (modulus moduli place) _ _ refl }

forms_within : (moduli : Moduli) (xs ys : Row) → AllForms moduli (xs ++ ys) → AllForms moduli xs × AllForms moduli ys
forms_within moduli xs ys all = (λ k r h. all k r (Contains-append_left xs ys (k, r) h), λ k r h. all k r (Contains-append_right xs ys (k, r) h))

forms_both : (moduli : Moduli) (xs ys : Row) → AllForms moduli xs → AllForms moduli ys → AllForms moduli (xs ++ ys)
forms_both moduli xs ys first second k r h = by (Contains-append_cases xs ys (k, r) h)
  where
    by : Contains {X = ℕ × Residues} xs (k, r) ⊎ Contains {X = ℕ × Residues} ys (k, r) → AreForms moduli r
    by (inl one) = first k r one
    by (inr other) = second k r other

-- what the call of a product says at a place
abbrev pub IsTimes : ℕ → ℕ → ℕ → ℕ → Type 0
IsTimes p f g r = (r < p) × Same p (2 ^ 64 * r) (f * g)

-- so many times an entry is put by
pub other_joined : (moduli : Moduli) (factor : Residues) (row other all behind rest : Row) (s : ℕ) (r more : Residues)
    → ((place : ℕ) → place < 5 → form_at place r < modulus moduli place → IsTimes (modulus moduli place) (form_at place factor) (form_at place r) (form_at place more))
    → Joined moduli factor row other (all ++ behind) ((s, r) ∷ rest) → Joined moduli factor row other ((all ++ (s, more) ∷ []) ++ behind) rest
other_joined moduli factor row other all behind rest s r more clause h =
    let first = forms_first moduli s r rest h.left in
    let both = λ (place : ℕ) (within : place < 5). clause place within (first.0 place within) in
    let parts = forms_within moduli all behind h.put_by in record {
      put_by = forms_both moduli (all ++ (s, more) ∷ []) behind (forms_pushed moduli all s more parts.0 (λ place within. (both place within).0)) parts.1;
      left = first.1;
      sum = λ place within v.
          let m = modulus moduli place in
          let f = form_at place factor in
          let before = row_both place all behind v in
          let after = row_both place (all ++ (s, more) ∷ []) behind v in
          let pushed = row_pushed place all s more v in
          chained m _ _ _ (moved (2 ^ 64) m f (form_at place more) (form_at place r) (v s) (row_at place all v + row_at place behind v) (row_at place rest v) _ (omega (arith, after, pushed)) (both place within).1)
          (chained m _ _ _ (equal m _ _ (ap (λ n. 2 ^ 64 * n + f * (form_at place r * v s + row_at place rest v)) (sym before))) (h.sum place within v));
    }
  where
    moved : (w m f q r v a o x : ℕ) → x ≡ a + q * v → Same m (w * q) (f * r) → Same m (w * x + f * o) (w * a + f * (r * v + o))
    moved w m f q r v a o x is s =
        let e = ap (λ n. w * n) is in
        chained m _ _ _ (equal m _ (w * q * v + (w * a + f * o)) (omega (arith, e)))
        (chained m _ _ _ (added m _ _ _ _ (product m _ _ v v s (equal m v v refl)) (equal m _ _ refl)) (equal m _ _ (omega arith)))

-- it is added to an entry of the row
pub both_joined : (moduli : Moduli) (factor : Residues) (row other all behind rest : Row) (s : ℕ) (r o more sum : Residues)
    → ((place : ℕ) → place < 5 → form_at place r < modulus moduli place → IsTimes (modulus moduli place) (form_at place factor) (form_at place r) (form_at place more))
    → ((place : ℕ) → place < 5 → form_at place o < modulus moduli place → form_at place more < modulus moduli place →
    (form_at place sum < modulus moduli place) × Same (modulus moduli place) (form_at place sum) (form_at place o + form_at place more))
    → Joined moduli factor row other (all ++ (s, o) ∷ behind) ((s, r) ∷ rest) → Joined moduli factor row other ((all ++ (s, sum) ∷ []) ++ behind) rest
both_joined moduli factor row other all behind rest s r o more sum clause adds h =
    let first = forms_first moduli s r rest h.left in
    let parts = forms_within moduli all ((s, o) ∷ behind) h.put_by in
    let old = forms_first moduli s o behind parts.1 in
    let times = λ (place : ℕ) (within : place < 5). clause place within (first.0 place within) in
    let whole = λ (place : ℕ) (within : place < 5). adds place within (old.0 place within) (times place within).0 in record {
      put_by = forms_both moduli (all ++ (s, sum) ∷ []) behind (forms_pushed moduli all s sum parts.0 (λ place within. (whole place within).0)) old.1;
      left = first.1;
      sum = λ place within v.
          let m = modulus moduli place in
          let f = form_at place factor in
          let before = row_both place all ((s, o) ∷ behind) v in
          let after = row_both place (all ++ (s, sum) ∷ []) behind v in
          let pushed = row_pushed place all s sum v in
          chained m _ _ _
          (moved (2 ^ 64) m f (form_at place sum) (form_at place o) (form_at place more) (form_at place r) (v s) (row_at place all v + row_at place behind v) (row_at place rest v) _
          (omega (arith, after, pushed)) (whole place within).1 (times place within).1)
          (chained m _ _ _ (equal m _ _ (let e = ap (λ n. 2 ^ 64 * n) before in omega (arith, e))) (h.sum place within v));
    }
  where
    moved : (w m f q o p r v a t x : ℕ) → x ≡ a + q * v → Same m q (o + p) → Same m (w * p) (f * r) → Same m (w * x + f * t) (w * (a + o * v) + f * (r * v + t))
    moved w m f q o p r v a t x is s k =
        let e = ap (λ n. w * n) is in
        let whole : Same m (w * (q * v)) (w * (o * v) + f * r * v) =
        chained m _ _ _ (times m w _ _ (product m _ _ v v s (equal m v v refl)))
        (chained m _ _ _ (equal m _ (w * (o * v) + w * p * v) (omega arith)) (added m _ _ _ _ (equal m _ _ refl) (product m _ _ v v k (equal m v v refl)))) in
        chained m _ _ _ (equal m _ (w * (q * v) + (w * a + f * t)) (omega (arith, e)))
        (chained m _ _ _ (added m _ _ _ _ whole (equal m _ _ refl)) (equal m _ _ (omega arith)))
