-- What the rows of exact masses say of every limit of turns. This project's own rule.
use Rattle.std.specs.Prelude.{◌≡◌, ℕ, ◌≤◌, true, Contains, None}
use Rattle.gcl_core.specs.declared.answers.Limit.TheVariants.{Turns}
use Rattle.gcl_core.specs.declared.answers.Outcome.{Outcome}
use Rattle.gcl_core.specs.declared.answers.Outcome.TheVariants as outcome
use Rattle.gcl_core.specs.meaning.Syntax.{SourceProgram}
use Rattle.gcl_core.specs.weighing.Fractions.{Fraction, AtMost, divided_by_rest}
use Rattle.gcl_core.specs.weighing.Mass.{mass_of}
use Rattle.mass_fold.specs.Rows.{Rows}
use Rattle.bounds_law.specs.PosteriorBounds.{lower_of, upper_of}
use Rattle.gcl_core.specs.meaning.Outcomes.{is_settled}
use Rattle.unlimited_law.specs.Settling.{Outflow}
use Rattle.unlimited_law.specs.SettledMasses.{settled_failed, IsNear}

-- the number of turns that loops complete by their visits, those of what runs for ever not counted, over what does not fail
abbrev pub rate_of : SourceProgram → Outflow → Fraction
rate_of p settled = divided_by_rest settled.turns (settled_failed p settled)

-- Without limits of attempts and of rounds, at n turns each mass is at most that of its row, and short of it by at most an n-th
-- of a rate; a value or fault that has no row has mass 0. The limit of turns has at least what runs for ever, and at most an
-- n-th of the rate more.
pub record AreLimits (p : SourceProgram) (rows : Rows) (endless rate : Fraction) : Type 0 where
  pub row : (x : Outcome) (f : Fraction) → Contains rows (x, f) → (n : ℕ) → 1 ≤ n → IsNear n rate (mass_of p n None None x) f
  pub others : (x : Outcome) → is_settled x ≡ true → ((f : Fraction) → Contains rows (x, f) → ⊥) → (n : ℕ) → 1 ≤ n →
      (mass_of p n None None x).0 ≡ 0
  pub never : (n : ℕ) → 1 ≤ n → IsNear n rate endless (mass_of p n None None (outcome.Limit Turns))

-- each row is a value or a fault, and lies within its bounds at every limit of turns
pub record LieWithin (p : SourceProgram) (rows : Rows) : Type 0 where
  pub settled : (x : Outcome) (f : Fraction) → Contains rows (x, f) → is_settled x ≡ true
  pub from_below : (x : Outcome) (f : Fraction) → Contains rows (x, f) → (n : ℕ) → AtMost (lower_of p n x) f
  pub from_above : (x : Outcome) (f : Fraction) → Contains rows (x, f) → (n : ℕ) → AtMost f (upper_of p n x)
