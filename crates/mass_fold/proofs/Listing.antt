-- The entries of a table of outcomes as rows: in order, and in lowest terms.
use Rattle.std.proofs.Common.{◌≡◌, true, Ordering, List, [], ◌∷◌, ◌++◌, refl, sym, ap, ◌∙◌, subst, arith}
use Rattle.std.specs.Prelude.{AllPairs, slice_index_or}
use Rattle.std.specs.declared.cmp.Ordering.TheVariants.{Less}
use Rattle.std.specs.Ordering.{MatchOrdering}
use Rattle.std.specs.List.Sorted.{IsStrictlySortedBy}
use Rattle.std.proofs.lemmas.List.{append_assoc}
use Rattle.std.proofs.lemmas.List.Kept.{AllPairs-cons}
use Rattle.std.proofs.lemmas.Map.Keys.{sorted_tail}
use Rattle.std.proofs.lemmas.Map.Views.{All-after_first}
use Rattle.gcl_core.specs.declared.answers.Outcome.{Outcome}
use Rattle.gcl_core.specs.weighing.Fractions.{Fraction}
use Rattle.gcl_core.specs.meaning.Order.{is_before}
use Rattle.numbers.specs.Arithmetic.{InLowest}
use Rattle.mass_fold.specs.Rows.{Rows, outcomes_of, Ascending, EachLowest}
use Rattle.mass_fold.proofs.OutcomeKeys.{Tells}

module _ (order : Outcome → Outcome → Ordering) (tells : Tells order) where
  is_behind : (x y : Outcome) → order x y ≡ Less → is_before x y ≡ true
  is_behind x y e = subst (λ o. MatchOrdering o (is_before x y ≡ true) (x ≡ y) (is_before y x ≡ true)) e (tells x y)

  pub outcomes_ascend : (xs : List Outcome) → IsStrictlySortedBy order xs → AllPairs (λ x y. is_before x y ≡ true) xs
  outcomes_ascend [] h = λ i j d l k. absurd (omega arith)
  outcomes_ascend (x ∷ xs) h =
      AllPairs-cons (λ x y. is_before x y ≡ true) x xs (λ k d l. is_behind x (slice_index_or xs k d) (All-after_first order x xs h k d l)) (outcomes_ascend xs (sorted_tail order x xs h))

  pub rows_ascend : (es rows : Rows) → rows ≡ es → IsStrictlySortedBy order (outcomes_of es) → Ascending rows
  rows_ascend es rows p h = subst Ascending (sym p) (outcomes_ascend (outcomes_of es) h)

pub copied_next : (es rows rows' rest rest' : Rows) (x : Outcome) (f : Fraction) → rest ≡ (x, f) ∷ rest' → rows' ≡ rows ++ (x, f) ∷ [] → rows ++ rest ≡ es → rows' ++ rest' ≡ es
copied_next es rows rows' rest rest' x f p q h = ap (λ z. z ++ rest') q ∙ append_assoc rows ((x, f) ∷ []) rest' ∙ ap (λ z. rows ++ z) (sym p) ∙ h

pub copied_all : (es rows rest : Rows) → rest ≡ [] → rows ++ rest ≡ es → rows ≡ es
copied_all es rows rest p h = sym (no_more rows) ∙ ap (λ z. rows ++ z) (sym p) ∙ h
  where
    no_more : (rows : Rows) → rows ++ [] ≡ rows
    no_more [] = refl
    no_more (row ∷ rows) = ap (λ z. row ∷ z) (no_more rows)

lowest_push : (rows : Rows) (x : Outcome) (f : Fraction) → InLowest f → EachLowest rows → EachLowest (rows ++ (x, f) ∷ [])
lowest_push [] x f l h = (l, tt)
lowest_push (row ∷ rows) x f l h = (h.0, lowest_push rows x f l h.1)

pub lowest_next : (rows rows' : Rows) (x : Outcome) (f : Fraction) → rows' ≡ rows ++ (x, f) ∷ [] → InLowest f → EachLowest rows → EachLowest rows'
lowest_next rows rows' x f q l h = subst EachLowest (sym q) (lowest_push rows x f l h)
