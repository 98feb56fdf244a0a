-- The rows over the outcomes of a round are the bounds of its program.
use Rattle.std.proofs.Common.{◌≡◌, ℕ, ◌+◌, ◌-◌, ◌<◌, Bool, true, Option, sym, ap, ◌∙◌, subst, arith}
use Rattle.std.specs.Prelude.{not, Contains}
use Rattle.gcl_core.specs.declared.answers.Outcome.{Outcome}
use Rattle.gcl_core.specs.meaning.Outcomes.{same_outcome}
use Rattle.gcl_core.specs.meaning.Syntax.{SourceProgram}
use Rattle.gcl_core.specs.weighing.Fractions.{Fraction}
use Rattle.bounds_law.specs.Rows.{Rows}
use Rattle.units_law.specs.Units.{Units, total}
use Rattle.units_law.specs.Between.{whole_of, least_of, rounded_down, rounded_up}
use Rattle.units_law.specs.Enclosures.{fails_in, given, least_units, most_units, lower_of, upper_of, upper_of_others, AreEnclosures}
use Rattle.units_law.proofs.Given.{given_joins}
use Rattle.enclose_fold.specs.inner.Outcomes.{RoundGives}
use Rattle.enclose_fold.specs.inner.Rows.{least_at, most_at, lower_at, upper_at, rows_of, upper_of_rest}
use Rattle.enclose_fold.proofs.Listed.{row_from, row_has, kept_order, entry_sum, has_entry}

module _ (p : SourceProgram) (n : ℕ) (r R : Option ℕ) (all_turns : Bool) (K : Units Outcome) (t : ℕ) (g : RoundGives p n r all_turns K (fails_in p n r) t) where
  abbrev failing : ℕ
  failing = fails_in p n r

  abbrev whole : ℕ
  whole = whole_of R failing

  abbrev all : ℕ
  all = total K

  all_is : all ≡ given p n r R all_turns (λ x. true)
  all_is = g.sums (λ x. true)

  -- the bounds of an outcome with so many units
  module _ (x : Outcome) (w : ℕ) (c : Contains K (x, w)) where
    units_are : w ≡ given p n r R all_turns (same_outcome x)
    units_are = sym (entry_sum x w K g.ascending c) ∙ g.sums (same_outcome x)

    least_is : least_at R failing all x w ≡ least_units p n r R all_turns (same_outcome x)
    least_is = ap (λ w. least_of R failing w (same_outcome x)) units_are

    others_are : all - w ≡ given p n r R all_turns (λ y. not (same_outcome x y))
    others_are = rest all w (given p n r R all_turns (same_outcome x)) (given p n r R all_turns (λ y. not (same_outcome x y))) (given p n r R all_turns (λ y. true)) all_is units_are (given_joins p n r R all_turns (same_outcome x))
      where
        rest : (a w u v T : ℕ) → a ≡ T → w ≡ u → u + v ≡ T → a - w ≡ v
        rest a w u v T e f g = omega arith

    most_is : most_at R failing all x w ≡ most_units p n r R all_turns (same_outcome x)
    most_is = ap (λ v. whole - least_of R failing v (λ y. not (same_outcome x y))) others_are

    lower_is : lower_at R failing all x w ≡ lower_of p n r R all_turns x
    lower_is = ap (λ l. rounded_down l whole) least_is

    upper_is : upper_at R failing all x w ≡ upper_of p n r R all_turns x
    upper_is = ap (λ m. rounded_up m whole) most_is

  are_enclosures : AreEnclosures p n r R all_turns (rows_of R failing all K)
  are_enclosures = record {
    ascending = kept_order R failing all K g.ascending;
    some = λ x low high c. let i = row_from R failing all K x low high c in subst (λ k. 0 < k) (least_is x i.units i.entry) i.some;
    lower = λ x low high c. let i = row_from R failing all K x low high c in i.lower ∙ lower_is x i.units i.entry;
    upper = λ x low high c. let i = row_from R failing all K x low high c in i.upper ∙ upper_is x i.units i.entry;
    all = λ x h.
        let e = has_entry R failing K x g.rounds (subst (λ w. 0 < least_of R failing w (same_outcome x)) (sym (g.sums (same_outcome x))) h) in
        subst (λ low. Contains (rows_of R failing all K) (x, low, upper_of p n r R all_turns x)) (lower_is x e.0 e.1)
        (subst (λ high. Contains (rows_of R failing all K) (x, lower_at R failing all x e.0, high)) (upper_is x e.0 e.1)
        (row_has R failing all K x e.0 e.1 (subst (λ k. 0 < k) (sym (least_is x e.0 e.1)) h)));
  }

  others_bound : upper_of_rest R failing all ≡ upper_of_others p n r R all_turns
  others_bound = ap (λ a. rounded_up (whole - least_of R failing a (λ x. true)) whole) all_is

module _ (p : SourceProgram) (n : ℕ) (r R : Option ℕ) (all_turns : Bool) (K : Units Outcome) (failing t : ℕ) (g : RoundGives p n r all_turns K failing t) (a : ℕ) (is : a ≡ total K) where
  exact : RoundGives p n r all_turns K (fails_in p n r) t
  exact = subst (λ f. RoundGives p n r all_turns K f t) g.failed g

  pub rows_are : (rows : Rows) → rows ≡ rows_of R failing a K → AreEnclosures p n r R all_turns rows
  rows_are rows q =
      subst (AreEnclosures p n r R all_turns) (sym (q ∙ ap (λ f. rows_of R f a K) g.failed ∙ ap (λ a. rows_of R (fails_in p n r) a K) is)) (are_enclosures p n r R all_turns K t exact)

  pub other_is : (other : Fraction) → other ≡ upper_of_rest R failing a → other ≡ upper_of_others p n r R all_turns
  other_is other q = q ∙ ap (λ f. upper_of_rest R f a) g.failed ∙ ap (λ a. upper_of_rest R (fails_in p n r) a) is ∙ others_bound p n r R all_turns K t exact
