-- The rows of bounds over the outcomes of one round, each with its units, in as many rounds.
use Rattle.std.specs.Prelude.{ℕ, zero, suc, ◌-◌, true, not, Option, Some, None, [], ◌∷◌}
use Rattle.gcl_core.specs.declared.answers.Outcome.{Outcome}
use Rattle.gcl_core.specs.meaning.Outcomes.{same_outcome}
use Rattle.gcl_core.specs.weighing.Fractions.{Fraction}
use Rattle.bounds_law.specs.Rows.{Rows}
use Rattle.units_law.specs.Units.{Units}
use Rattle.units_law.specs.Between.{whole_of, least_of, rounded_down, rounded_up}

-- with the row of an outcome, where it has bounds
abbrev pub with_row : Outcome → Option (Fraction × Fraction) → Rows → Rows
with_row x None rows = rows
with_row x (Some bounds) rows = (x, bounds.0, bounds.1) ∷ rows

-- where so many units fail, and all outcomes that count have so many
module _ (R : Option ℕ) (failed all : ℕ) where
  abbrev pub least_at : Outcome → ℕ → ℕ
  least_at x w = least_of R failed w (same_outcome x)

  abbrev pub most_at : Outcome → ℕ → ℕ
  most_at x w = whole_of R failed - least_of R failed (all - w) (λ y. not (same_outcome x y))

  abbrev pub lower_at : Outcome → ℕ → Fraction
  lower_at x w = rounded_down (least_at x w) (whole_of R failed)

  abbrev pub upper_at : Outcome → ℕ → Fraction
  upper_at x w = rounded_up (most_at x w) (whole_of R failed)

  -- the two bounds of an outcome that has so many units at least
  abbrev pub bounds_from : ℕ → Outcome → ℕ → Option (Fraction × Fraction)
  bounds_from zero x w = None
  bounds_from (suc k) x w = Some (lower_at x w, upper_at x w)

  abbrev pub bounds_at : Outcome → ℕ → Option (Fraction × Fraction)
  bounds_at x w = bounds_from (least_at x w) x w

  abbrev pub rows_of : Units Outcome → Rows
  rows_of [] = []
  rows_of (e ∷ J) = with_row e.0 (bounds_at e.0 e.1) (rows_of J)

  abbrev pub upper_of_rest : Fraction
  upper_of_rest = rounded_up (whole_of R failed - least_of R failed all (λ x. true)) (whole_of R failed)
