-- Rows of bounds: values and faults ascend, each with its two bounds in lowest terms, and what the rows promise for every greater
-- limit of turns. This project's own rule.
use Rattle.std.specs.Prelude.{◌≡◌, ℕ, ◌≤◌, ◌<◌, true, None, List, map, AllPairs, Contains}
use Rattle.numbers.specs.Fraction.{lowest}
use Rattle.gcl_core.specs.declared.answers.Outcome.{Outcome}
use Rattle.gcl_core.specs.weighing.Fractions.{Fraction, AtMost}
use Rattle.gcl_core.specs.weighing.Mass.{mass_of}
use Rattle.gcl_core.specs.meaning.Order.{is_before}
use Rattle.gcl_core.specs.meaning.Outcomes.{same_outcome, is_settled}
use Rattle.gcl_core.specs.meaning.Syntax.{SourceProgram}
use Rattle.bounds_law.specs.PosteriorBounds.{given, lower_of, upper_of, upper_of_others}

-- an outcome, its lower bound and its upper bound
abbrev pub Rows : Type 0
Rows = List (Outcome × Fraction × Fraction)

abbrev pub outcomes_of : Rows → List Outcome
outcomes_of rows = map (λ row. row.0) rows

-- The rows are exactly the values and faults to which a round of n turns gives more than 0.
pub record AreBoundsOf (p : SourceProgram) (n : ℕ) (rows : Rows) : Type 0 where
  pub ascending : AllPairs (λ x y. is_before x y ≡ true) (outcomes_of rows)
  pub settled : (x : Outcome) (low high : Fraction) → Contains rows (x, low, high) → is_settled x ≡ true
  pub above_zero : (x : Outcome) (low high : Fraction) → Contains rows (x, low, high) → 0 < (given p n (same_outcome x)).0
  pub lower : (x : Outcome) (low high : Fraction) → Contains rows (x, low, high) → low ≡ lowest (lower_of p n x)
  pub upper : (x : Outcome) (low high : Fraction) → Contains rows (x, low, high) → high ≡ lowest (upper_of p n x)
  pub all : (x : Outcome) → is_settled x ≡ true → 0 < (given p n (same_outcome x)).0
      → Contains rows (x, lowest (lower_of p n x), lowest (upper_of p n x))

abbrev pub HasNone : Outcome → Rows → Type 0
HasNone x rows = (low high : Fraction) → Contains rows (x, low, high) → ⊥

-- At n' turns the mass of an outcome that has a row, which is its lower bound there, is at least its lower bound, and its upper
-- bound there at most its upper bound; the upper bound there of a value or fault that has no row is at most the bound of all
-- others, which does not rise. So the mass lies between the bounds, both included, since no mass is above its upper bound at the
-- same limit (`from_above` of the law, with one limit for both).
pub record HoldAt (p : SourceProgram) (n' : ℕ) (rows : Rows) (other : Fraction) : Type 0 where
  pub fraction : (x : Outcome) → is_settled x ≡ true → 1 ≤ (mass_of p n' None None x).1
  pub from_below : (x : Outcome) (low high : Fraction) → Contains rows (x, low, high) → AtMost low (mass_of p n' None None x)
  pub upper_falls : (x : Outcome) (low high : Fraction) → Contains rows (x, low, high) → AtMost (upper_of p n' x) high
  pub new_falls : (x : Outcome) → is_settled x ≡ true → HasNone x rows → AtMost (upper_of p n' x) other
  pub others_fall : AtMost (upper_of_others p n') other
