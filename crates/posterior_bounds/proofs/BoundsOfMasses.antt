-- The rows over the masses of n turns are the bounds, and hold; and why there are none.
use Rattle.std.proofs.Common.{◌≡◌, ◌⊎◌, inl, inr, ◌∙◌, ℕ, zero, suc, ◌*◌, ◌^◌, ◌<◌, ◌≤◌, true, false, None, refl, sym, ap, subst, arith, le_refl, true≢false}
use Rattle.std.specs.Prelude.{Contains}
use Rattle.numbers.specs.Fraction.{lowest, IsEqual}
use Rattle.numbers.specs.Arithmetic.{InLowest, sum_of}
use Rattle.numbers.proofs.Divisors.{lowest_in_lowest, lowest_equal}
use Rattle.gcl_core.specs.declared.answers.Limit.TheVariants.{Turns}
use Rattle.gcl_core.specs.declared.answers.Outcome.{Outcome}
use Rattle.gcl_core.specs.declared.answers.Outcome.TheVariants as outcome
use Rattle.gcl_core.specs.weighing.Fractions.{Fraction, zero_share, plus, IsBelowOne}
use Rattle.gcl_core.specs.meaning.Checked.{IsChecked}
use Rattle.gcl_core.specs.weighing.Mass.{mass_of}
use Rattle.gcl_core.specs.meaning.Outcomes.{same_outcome, is_settled}
use Rattle.gcl_core.specs.meaning.Syntax.{SourceProgram}
use Rattle.mass_fold.specs.declared.error.MassError.{MassError}
use Rattle.mass_fold.specs.declared.error.MassError.TheVariants.{TooWide, TooManyStates, AllFailed, OutOfMemory}
use Rattle.mass_fold.specs.Amounts.{WholeWithin}
use Rattle.mass_fold.specs.Refused.{MassRefused}
use Rattle.mass_fold.specs.Rows as masses
use Rattle.table_flow.specs.Width.{width_of}
use Rattle.table_flow.proofs.Wholes.{sum_refused}
use Rattle.weighing_law.proofs.Shares.{product_pos, factor_pos}
use Rattle.bounds_law.specs.PosteriorBounds.{fails, given, lower_of, upper_of, upper_of_others}
use Rattle.bounds_law.specs.Holding.{BoundsHold}
use Rattle.bounds_law.specs.Rows.{Rows, AreBoundsOf, HasNone, HoldAt}
use Rattle.posterior_bounds.specs.inner.Rising.{mass_in, raised, RaiseRefused}
use Rattle.bounds_law.proofs.BoundsLaw.{bounds_hold}
use Rattle.posterior_bounds.proofs.Chosen.{NoRow, in_or_none, beside, raised_from, raised_has, kept_order}
use Rattle.bounds_law.proofs.EqualFractions.{equal_below, equal_above}
use Rattle.mass_fold.proofs.LowestTerms.{lowest_same, lowest_sum}

abbrev turns : Outcome
turns = outcome.Limit Turns

never_turns : (x : Outcome) → is_settled x ≡ true → same_outcome turns x ≡ false
never_turns (outcome.Value v) e = refl
never_turns (outcome.Fault f) e = refl
never_turns (outcome.Limit k) e = absurd (true≢false (sym e))

zero_from : (k : ℕ) → (0 < k → ⊥) → k ≡ 0
zero_from zero h = refl
zero_from (suc k) h = absurd (h (omega arith))

as_lowest : (f g : Fraction) → 0 < g.1 → f ≡ lowest g → InLowest f
as_lowest f g pos e = subst InLowest (sym e) (lowest_in_lowest g.0 g.1 (omega arith))

of_value : (f g : Fraction) → f ≡ lowest g → IsEqual f g
of_value f g e = subst (λ h. IsEqual h g) (sym e) (lowest_equal g.0 g.1)

module _ (p : SourceProgram) (n : ℕ) (ok : IsChecked p) (passes : IsBelowOne (fails p n)) where
  law : BoundsHold p n n
  law = bounds_hold p n n ok (le_refl n) passes

  lower_pos : (x : Outcome) → is_settled x ≡ true → 0 < (lower_of p n x).1
  lower_pos x s = let z = (law.outcomes x s).before.lower_fraction in omega arith

  upper_pos : (x : Outcome) → is_settled x ≡ true → 0 < (upper_of p n x).1
  upper_pos x s = let z = (law.outcomes x s).before.upper_fraction in omega arith

  others_pos : 0 < (upper_of_others p n).1
  others_pos = let z = law.others_before in omega arith

  -- ---- over the masses
  module _ (rows : masses.Rows) (are : masses.AreMasses (mass_of p n None None) rows) where
    pub others_is : mass_in turns rows ≡ lowest (upper_of_others p n)
    others_is = by (in_or_none turns rows)
      where
        by : Contains rows (turns, mass_in turns rows) ⊎ ((mass_in turns rows ≡ lowest zero_share) × NoRow turns rows) → mass_in turns rows ≡ lowest (upper_of_others p n)
        by (inl c) = (are.each turns (mass_in turns rows) c).1
        by (inr none) =
            let u = upper_of_others p n in
            let z : u.0 ≡ 0 = zero_from u.0 (λ h. none.1 (lowest u) (are.all turns h)) in
            none.0 ∙ lowest_same zero_share u (omega arith) others_pos (let e : 0 * u.1 ≡ u.0 * 1 = rw z (omega arith) in e)

    module _ (other : Fraction) (is : other ≡ lowest (upper_of_others p n)) where
      upper_is : (x : Outcome) → is_settled x ≡ true → (low : Fraction) → low ≡ lowest (lower_of p n x) → lowest (plus low other) ≡ lowest (upper_of p n x)
      upper_is x s low e =
          let b = (law.outcomes x s).before in
          ap (λ f. lowest (plus f other)) e ∙ ap (λ f. lowest (plus (lowest (lower_of p n x)) f)) is
          ∙ lowest_sum (lower_of p n x) (upper_of_others p n) (upper_of p n x) (lower_pos x s) others_pos (upper_pos x s) b.width

      pub are_bounds : AreBoundsOf p n (raised other rows)
      are_bounds = record {
        ascending = kept_order other rows are.ascending;
        settled = λ x low high c. (raised_from other rows x low high c).settled;
        above_zero = λ x low high c.
            let g = given p n (same_outcome x) in
            let m = (are.each x low (raised_from other rows x low high c).mass).0 in
            factor_pos g.0 (fails p n).1 (g.0 * (fails p n).1) refl m;
        lower = λ x low high c. (are.each x low (raised_from other rows x low high c).mass).1;
        upper = λ x low high c.
            let r = raised_from other rows x low high c in
            r.is ∙ upper_is x r.settled low (are.each x low r.mass).1;
        all = λ x s h.
            let g = given p n (same_outcome x) in
            let low = lowest (lower_of p n x) in
            let c = are.all x (product_pos g.0 (fails p n).1 h (let z = passes in omega arith)) in
            subst (λ high. Contains (raised other rows) (x, low, high)) (upper_is x s low refl) (raised_has other rows x low c s);
      }

      -- ---- why there are none
      pub raise_refused : (e : MassError) → WholeWithin (width_of p n None None) rows → RaiseRefused e other rows → other ≡ mass_in turns rows → MassRefused e p n None None
      raise_refused TooWide parts h same =
          let x = h.outcome in
          let M = parts.scale in
          let b = beside M x turns h.mass rows (never_turns x h.settled) parts.kept h.row in
          let low = as_lowest h.mass (lower_of p n x) (lower_pos x h.settled) (are.each x h.mass h.row).1 in
          let q = as_lowest (mass_in turns rows) (upper_of_others p n) others_pos (sym same ∙ is) in
          let none : sum_of h.mass (mass_in turns rows) ≡ None = sym (ap (λ f. sum_of h.mass f) same) ∙ h.sum in
          let w : 2 ^ 128 ≤ M = sum_refused M h.mass (mass_in turns rows) parts.positive b.first b.second low q (let y = b.sum in let z = parts.sum in omega arith) none in
          let z = parts.within in
          omega arith
      raise_refused TooManyStates parts h same = absurd h
      raise_refused AllFailed parts h same = absurd h
      raise_refused OutOfMemory parts h same = tt

  -- ---- what they say of more turns
  pub rows_hold : (rows : Rows) (other : Fraction) → AreBoundsOf p n rows → other ≡ lowest (upper_of_others p n) → (n' : ℕ) → n ≤ n' → IsBelowOne (fails p n') → HoldAt p n' rows other
  rows_hold rows other are is n' more passing =
      let l = bounds_hold p n n' ok more passing in
      let u = of_value other (upper_of_others p n) is in
      let nothing_given : (x : Outcome) → is_settled x ≡ true → HasNone x rows → (given p n (same_outcome x)).0 ≡ 0
      = λ x s none. zero_from (given p n (same_outcome x)).0 (λ h. none (lowest (lower_of p n x)) (lowest (upper_of p n x)) (are.all x s h)) in
      record {
        fraction = λ x s. (l.outcomes x s).fraction;
        from_below = λ x low high c. let s = are.settled x low high c in
            equal_below low (lower_of p n x) (mass_of p n' None None x) (lower_pos x s) (of_value low (lower_of p n x) (are.lower x low high c)) (l.outcomes x s).from_below;
        upper_falls = λ x low high c. let s = are.settled x low high c in
            equal_above (upper_of p n' x) high (upper_of p n x) (upper_pos x s) (of_value high (upper_of p n x) (are.upper x low high c)) (l.outcomes x s).upper_falls;
        new_falls = λ x s none. equal_above (upper_of p n' x) other (upper_of_others p n) others_pos u ((l.outcomes x s).new_falls (nothing_given x s none));
        others_fall = equal_above (upper_of_others p n') other (upper_of_others p n) others_pos u l.others_fall;
      }
