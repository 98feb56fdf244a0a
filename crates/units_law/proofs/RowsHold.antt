-- Rows of bounds hold: each mass lies between its two bounds, and what has no row has at most what was lost.
use Rattle.std.proofs.Common.{◌≡◌, ℕ, zero, suc, ◌+◌, ◌*◌, ◌/◌, ◌≤◌, ◌<◌, Bool, true, false, cond, Option, Some, None, refl, sym, subst, arith}
use Rattle.std.specs.Prelude.{not}
use Rattle.std.specs.Int.{div_ceil}
use Rattle.std.proofs.lemmas.Grind.{div_ceil_times}
use Rattle.std.proofs.lemmas.Nat.{div-add-mod'}
use Rattle.std.proofs.Math.Nat.{mul-le-mul_right, le_of_mul-le-mul_right}
use Rattle.numbers.specs.declared.units.TheConstants.{ALL}
use Rattle.numbers.proofs.Divisors.{lowest_equal}
use Rattle.gcl_core.specs.declared.answers.Limit.TheVariants.{Rounds}
use Rattle.gcl_core.specs.declared.answers.Outcome.{Outcome}
use Rattle.gcl_core.specs.declared.answers.Outcome.TheVariants as outcome
use Rattle.gcl_core.specs.meaning.Outcomes.{same_outcome}
use Rattle.gcl_core.specs.meaning.Syntax.{SourceProgram}
use Rattle.gcl_core.specs.weighing.Fractions.{Fraction, AtMost}
use Rattle.gcl_core.specs.weighing.Mass.{failed_mass, mass_of, mass_of_those}
use Rattle.bounds_law.specs.Rows.{Rows, HasNone}
use Rattle.bounds_law.proofs.EqualFractions.{equal_below, equal_above}
use Rattle.units_law.specs.Rounds.{StandsBelow}
use Rattle.units_law.specs.SomeRounds.{in_rounds}
use Rattle.units_law.specs.Between.{rounded_down, rounded_up}
use Rattle.units_law.specs.Enclosures.{fails_in, given, whole_units, least_units, most_units, lost_units, lower_of, upper_of, upper_of_others, AreEnclosures}
use Rattle.units_law.specs.Events.{IsBetween}
use Rattle.units_law.specs.Holding.{MayEnd, Enclose}
use Rattle.units_law.proofs.Given.{given_joins, given_nothing}
use Rattle.units_law.proofs.KeptInRounds.{same_fails, given_kept}
use Rattle.units_law.proofs.Least.{some_left}

-- ---- rounding to units
through : (p q m : Fraction) → 0 < q.1 → AtMost p q → AtMost q m → AtMost p m
through p q m some h k = le_of_mul-le-mul_right {k = q.1} (let x = mul-le-mul_right m.1 h in let y = mul-le-mul_right p.1 k in omega arith) some

pub down_below : (part w : ℕ) (m : Fraction) → 0 < w → AtMost (part, w) m → AtMost (rounded_down part w) m
down_below part w m some h =
    let k = part * ALL / w in
    let d = div-add-mod' (part * ALL) w in
    let near : AtMost (k, ALL) (part, w) = omega arith in
    equal_below (rounded_down part w) (k, ALL) m (omega arith) (lowest_equal k ALL) (through (k, ALL) (part, w) m some near h)

pub up_above : (part w : ℕ) (m : Fraction) → 0 < w → AtMost m (part, w) → AtMost m (rounded_up part w)
up_above part w m some h =
    let k = div_ceil (part * ALL) w in
    let near : AtMost (part, w) (k, ALL) = (div_ceil_times (part * ALL) w some).0 in
    equal_above m (rounded_up part w) (k, ALL) (omega arith) (lowest_equal k ALL) (through m (part, w) (k, ALL) some h near)

zero_from : (k : ℕ) → (0 < k → ⊥) → k ≡ 0
zero_from zero h = refl
zero_from (suc k) h = absurd (h (omega arith))

-- ---- what has no row
module _ (p : SourceProgram) (n : ℕ) (r : Option ℕ) (all_turns : Bool) (meant : Outcome → Bool) where
  abbrev given_to : Option ℕ → (Outcome → Bool) → ℕ
  given_to R = given p n r R all_turns

  abbrev others : Outcome → Bool
  others x = not (meant x)

  others_have_all : (R : Option ℕ) → ((x : Outcome) → meant x ≡ true → given_to R (same_outcome x) ≡ 0) → given_to R others ≡ given_to R (λ x. true)
  others_have_all R h = let x = given_joins p n r R all_turns meant in let y = given_nothing p n r R all_turns meant h in omega arith

  -- where the limit of rounds is meant, and has nothing
  limit_apart : (u f : ℕ) (b : Bool) → (b ≡ true → f ≡ 0) → u + f ≤ u + cond (not b) f 0
  limit_apart u f true h = let x = h refl in omega arith
  limit_apart u f false h = omega arith

  pub nothing_kept : (R : Option ℕ) → ((x : Outcome) → meant x ≡ true → least_units p n r R all_turns (same_outcome x) ≡ 0) →
      least_units p n r R all_turns (λ x. true) ≤ least_units p n r R all_turns others
  nothing_kept None h = let e = others_have_all None h in omega arith
  nothing_kept (Some zero) h = limit_apart 0 ALL (meant (outcome.Limit Rounds)) (λ t. let z = h (outcome.Limit Rounds) t in omega arith)
  nothing_kept (Some (suc k)) h =
      let R = suc k in
      let f = fails_in p n r in
      let g = given_to (Some R) others in
      let limit = given_to (Some R) (same_outcome (outcome.Limit Rounds)) in
      subst (λ all. (in_rounds (f, all) R).1 + (in_rounds (f, all) R).0 ≤ least_units p n r (Some R) all_turns others) (others_have_all (Some R) nothing_given)
      (limit_apart (in_rounds (f, g) R).1 (in_rounds (f, g) R).0 (meant (outcome.Limit Rounds))
      (λ t. let z = h (outcome.Limit Rounds) t in let y = same_fails f g limit R in omega arith))
    where
      nothing_given : (x : Outcome) → meant x ≡ true → given_to (Some (suc k)) (same_outcome x) ≡ 0
      nothing_given x t = let y = h x t in let z = given_kept (fails_in p n r) (given_to (Some (suc k)) (same_outcome x)) (suc k) (omega arith) in omega arith

-- ---- rows
pub some_whole : (p : SourceProgram) (n n' : ℕ) (r R : Option ℕ) (all_turns : Bool) → StandsBelow (fails_in p n r) (failed_mass p n' r) → MayEnd p n' r R → 0 < whole_units p n r R all_turns
some_whole p n n' r None all_turns h passes = let x = some_left (fails_in p n r) (failed_mass p n' r) h passes in omega arith
some_whole p n n' r (Some R) all_turns h passes = omega arith

module _ (p : SourceProgram) (n n' : ℕ) (r R : Option ℕ) (all_turns : Bool) (between : (meant : Outcome → Bool) → IsBetween p n n' r R all_turns meant) (some : 0 < whole_units p n r R all_turns)
    (rows : Rows) (other : Fraction) (are : AreEnclosures p n r R all_turns rows) (is : other ≡ upper_of_others p n r R all_turns) where
  -- outcomes without a row
  others_at_most : (meant : Outcome → Bool) → ((x : Outcome) → meant x ≡ true → HasNone x rows) → AtMost (mass_of_those p n' r R meant) other
  others_at_most meant none =
      let m = mass_of_those p n' r R meant in
      let w = whole_units p n r R all_turns in
      let nothing = λ (x : Outcome) (t : meant x ≡ true). zero_from (least_units p n r R all_turns (same_outcome x)) (λ l. none x t (lower_of p n r R all_turns x) (upper_of p n r R all_turns x) (are.all x l)) in
      let kept = nothing_kept p n r all_turns meant R nothing in
      let less : most_units p n r R all_turns meant ≤ lost_units p n r R all_turns = omega (arith, kept) in
      let y = mul-le-mul_right m.1 less in
      let z = (between meant).from_above in
      subst (λ f. AtMost m f) (sym is) (up_above (lost_units p n r R all_turns) w m some (omega arith))

  pub rows_enclose : Enclose p n' r R rows other
  rows_enclose = record {
    fraction = λ x. (between (same_outcome x)).fraction;
    from_below = λ x low high c.
        subst (λ f. AtMost f (mass_of p n' r R x)) (sym (are.lower x low high c)) (down_below (least_units p n r R all_turns (same_outcome x)) (whole_units p n r R all_turns) (mass_of p n' r R x) some (between (same_outcome x)).from_below);
    from_above = λ x low high c.
        subst (λ f. AtMost (mass_of p n' r R x) f) (sym (are.upper x low high c)) (up_above (most_units p n r R all_turns (same_outcome x)) (whole_units p n r R all_turns) (mass_of p n' r R x) some (between (same_outcome x)).from_above);
    others = others_at_most;
  }
