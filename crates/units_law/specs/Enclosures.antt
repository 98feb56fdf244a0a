-- Rows of bounds between which the masses of a program lie: outcomes ascend, each with its two bounds in lowest terms. This project's
-- own rule.
use Rattle.std.specs.Prelude.{◌≡◌, ℕ, ◌<◌, Bool, true, ◌&&◌, not, Option, AllPairs, Contains}
use Rattle.gcl_core.specs.declared.answers.Limit.TheVariants.{Turns}
use Rattle.gcl_core.specs.declared.answers.Outcome.{Outcome}
use Rattle.gcl_core.specs.declared.answers.Outcome.TheVariants as outcome
use Rattle.gcl_core.specs.meaning.Order.{is_before}
use Rattle.gcl_core.specs.meaning.Outcomes.{same_outcome}
use Rattle.gcl_core.specs.meaning.Syntax.{SourceProgram}
use Rattle.gcl_core.specs.weighing.Fractions.{Fraction}
use Rattle.bounds_law.specs.Rows.{Rows, outcomes_of}
use Rattle.units_law.specs.Down.{down}
use Rattle.units_law.specs.Rounds.{round_units, meant_units, failed_units}
use Rattle.units_law.specs.Between.{whole, least, most, lost, rounded_down, rounded_up}

-- under a limit of n turns, and of r attempts or none, the units of a round that fail, and those of the outcomes that are meant
abbrev pub fails_in : SourceProgram → ℕ → Option ℕ → ℕ
fails_in p n r = failed_units (round_units down p n r)

abbrev pub units_of : SourceProgram → ℕ → Option ℕ → (Outcome → Bool) → ℕ
units_of p n r meant = meant_units p meant (round_units down p n r)

-- no unit of a round but such as fail
abbrev pub NothingPasses : SourceProgram → ℕ → Option ℕ → Type 0
NothingPasses p n r = units_of p n r (λ x. true) ≡ 0

-- or some other unit
abbrev pub SomePasses : SourceProgram → ℕ → Option ℕ → Type 0
SomePasses p n r = 0 < units_of p n r (λ x. true)

-- for all greater limits of turns, what ran out of turns counts for no outcome
abbrev pub counts : Bool → Outcome → Bool
counts all_turns x = not (all_turns && same_outcome (outcome.Limit Turns) x)

-- in R rounds, or in as many as it takes
module _ (p : SourceProgram) (n : ℕ) (r R : Option ℕ) (all_turns : Bool) where
  abbrev pub given : (Outcome → Bool) → ℕ
  given meant = units_of p n r (λ x. meant x && counts all_turns x)

  abbrev pub whole_units : ℕ
  whole_units = whole R (fails_in p n r) given

  abbrev pub least_units : (Outcome → Bool) → ℕ
  least_units = least R (fails_in p n r) given

  abbrev pub most_units : (Outcome → Bool) → ℕ
  most_units = most R (fails_in p n r) given

  abbrev pub lost_units : ℕ
  lost_units = lost R (fails_in p n r) given

  -- ---- the bounds of an outcome, and of all that have no row
  abbrev pub lower_of : Outcome → Fraction
  lower_of x = rounded_down (least_units (same_outcome x)) whole_units

  abbrev pub upper_of : Outcome → Fraction
  upper_of x = rounded_up (most_units (same_outcome x)) whole_units

  abbrev pub upper_of_others : Fraction
  upper_of_others = rounded_up lost_units whole_units

-- The rows are exactly the outcomes that have a unit.
pub record AreEnclosures (p : SourceProgram) (n : ℕ) (r R : Option ℕ) (all_turns : Bool) (rows : Rows) : Type 0 where
  pub ascending : AllPairs (λ x y. is_before x y ≡ true) (outcomes_of rows)
  pub some : (x : Outcome) (low high : Fraction) → Contains rows (x, low, high) → 0 < least_units p n r R all_turns (same_outcome x)
  pub lower : (x : Outcome) (low high : Fraction) → Contains rows (x, low, high) → low ≡ lower_of p n r R all_turns x
  pub upper : (x : Outcome) (low high : Fraction) → Contains rows (x, low, high) → high ≡ upper_of p n r R all_turns x
  pub all : (x : Outcome) → 0 < least_units p n r R all_turns (same_outcome x)
      → Contains rows (x, lower_of p n r R all_turns x, upper_of p n r R all_turns x)
