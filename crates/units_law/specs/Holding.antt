-- What rows of bounds promise: each mass lies between its two bounds, and they are as far apart as what was lost. This project's own
-- rule.
use Rattle.std.specs.Prelude.{◌≡◌, ℕ, ◌+◌, ◌≤◌, Bool, true, false, Option, Some, None, AllPairs, Contains}
use Rattle.numbers.specs.declared.units.TheConstants.{ALL}
use Rattle.numbers.specs.Arithmetic.{InLowest}
use Rattle.gcl_core.specs.declared.answers.Outcome.{Outcome}
use Rattle.gcl_core.specs.meaning.Order.{is_before}
use Rattle.gcl_core.specs.meaning.Syntax.{SourceProgram}
use Rattle.gcl_core.specs.weighing.Fractions.{Fraction, plus, AtMost, IsBelowOne}
use Rattle.gcl_core.specs.weighing.Mass.{failed_mass, mass_of, mass_of_those}
use Rattle.bounds_law.specs.Rows.{Rows, HasNone, outcomes_of}

-- the limits of turns that bounds are for: the n that they were made with, or it and every greater one
abbrev pub IsFor : Bool → ℕ → ℕ → Type 0
IsFor false n n' = n' ≡ n
IsFor true n n' = n ≤ n'

-- without a limit of rounds, a round fails with probability below 1
abbrev pub MayEnd : SourceProgram → ℕ → Option ℕ → Option ℕ → Type 0
MayEnd p n r None = IsBelowOne (failed_mass p n r)
MayEnd p n r (Some R) = Unit {0}

-- Outcomes ascend, each is possible, and all fractions are in lowest terms.
pub record AreOrdered (rows : Rows) (other : Fraction) : Type 0 where
  pub ascending : AllPairs (λ x y. is_before x y ≡ true) (outcomes_of rows)
  pub each : (x : Outcome) (low high : Fraction) → Contains rows (x, low, high) → (1 ≤ low.0) × InLowest low × InLowest high
  pub others : InLowest other

-- At n' turns the mass of an outcome that has a row lies between its bounds, both included, and all outcomes that have none have
-- together at most the bound of the others.
pub record Enclose (p : SourceProgram) (n' : ℕ) (r R : Option ℕ) (rows : Rows) (other : Fraction) : Type 0 where
  pub fraction : (x : Outcome) → 1 ≤ (mass_of p n' r R x).1
  pub from_below : (x : Outcome) (low high : Fraction) → Contains rows (x, low, high) → AtMost low (mass_of p n' r R x)
  pub from_above : (x : Outcome) (low high : Fraction) → Contains rows (x, low, high) → AtMost (mass_of p n' r R x) high
  pub others : (meant : Outcome → Bool) → ((x : Outcome) → meant x ≡ true → HasNone x rows) → AtMost (mass_of_those p n' r R meant) other

-- how many units the two bounds of a row may be further apart than what was lost: one by a division, and one for each round of a limit
abbrev pub most_apart : Option ℕ → ℕ
most_apart None = 1
most_apart (Some R) = R + 1

-- no two bounds are further apart than the bound of the others and k units
abbrev pub AreClose : ℕ → Rows → Fraction → Type 0
AreClose k rows other =
    (x : Outcome) (low high : Fraction) → Contains rows (x, low, high) → AtMost high (plus (plus low other) (k, ALL))
