-- Rows of bounds from a round over pairs, and one bound for all outcomes without a row. This project's own rule.
use Rattle.std.specs.Prelude.{◌≡◌, ℕ, ◌+◌, ◌-◌, ◌*◌, ◌/◌, ◌<◌, ◌==◌, Bool, true, false, not, AllPairs, Contains}
use Rattle.numbers.specs.declared.units.TheConstants.{ALL}
use Rattle.gcl_core.specs.declared.answers.Outcome.{Outcome}
use Rattle.gcl_core.specs.meaning.Order.{is_before}
use Rattle.gcl_core.specs.meaning.Outcomes.{same_outcome}
use Rattle.gcl_core.specs.meaning.Syntax.{SourceProgram}
use Rattle.gcl_core.specs.weighing.Fractions.{Fraction, plus, AtMost}
use Rattle.bounds_law.specs.Rows.{Rows, outcomes_of}
use Rattle.units_law.specs.Between.{rounded_down, rounded_up}
use Rattle.scaled_law.specs.Given.{least_of, most_of}
use Rattle.scaled_law.specs.Scaled.{Scaled}

-- after a round, for one limit of turns or for every greater one
module _ (p : SourceProgram) (all_turns : Bool) (f : Scaled) where
  -- what an outcome has at least and at most, and what all others have
  abbrev pub least_at : Outcome → ℕ
  least_at x = least_of p all_turns (same_outcome x) f

  abbrev pub most_at : Outcome → ℕ
  most_at x = most_of p all_turns (same_outcome x) f

  abbrev pub least_beside : Outcome → ℕ
  least_beside x = least_of p all_turns (λ y. not (same_outcome x y)) f

  abbrev pub most_beside : Outcome → ℕ
  most_beside x = most_of p all_turns (λ y. not (same_outcome x y)) f

  -- ---- the bounds of an outcome

  abbrev pub lower_of : Outcome → Fraction
  lower_of x = rounded_down (least_at x) (least_at x + most_beside x)

  abbrev pub upper_of : Outcome → Fraction
  upper_of x = rounded_up (most_at x) (most_at x + least_beside x)

  -- of 2^120 parts of the whole, how many it has at least
  abbrev pub parts_of : Outcome → ℕ
  parts_of x = least_at x * ALL / (least_at x + most_beside x)

  -- ---- the bound of all that have no row

  abbrev pub unlisted : Outcome → Bool
  unlisted x = parts_of x == 0

  abbrev pub most_unlisted : ℕ
  most_unlisted = most_of p all_turns unlisted f

  abbrev pub upper_of_others : Fraction
  upper_of_others = rounded_up most_unlisted (most_unlisted + least_of p all_turns (λ x. not (unlisted x)) f)

  -- The rows are exactly the outcomes that have such a part at least.
  pub record AreListed (rows : Rows) : Type 0 where
    pub ascending : AllPairs (λ x y. is_before x y ≡ true) (outcomes_of rows)
    pub some : (x : Outcome) (low high : Fraction) → Contains rows (x, low, high) → 0 < parts_of x
    pub lower : (x : Outcome) (low high : Fraction) → Contains rows (x, low, high) → low ≡ lower_of x
    pub upper : (x : Outcome) (low high : Fraction) → Contains rows (x, low, high) → high ≡ upper_of x
    pub all : (x : Outcome) → 0 < parts_of x → Contains rows (x, lower_of x, upper_of x)

  -- ---- how far apart bounds are

  abbrev pub all_least : ℕ
  all_least = least_of p all_turns (λ x. true) f

  -- what is not certain to belong to one outcome
  abbrev pub uncertain : ℕ
  uncertain = most_of p all_turns (λ x. true) f + most_of p all_turns (λ x. false) f - all_least

  -- Two bounds are no further apart than what is not certain beside what is, and two parts of 2^-120.
  abbrev pub AreNear : Rows → Type 0
  AreNear rows = (x : Outcome) (low high : Fraction) → Contains rows (x, low, high) → AtMost high (plus (plus low (uncertain, all_least)) (2, ALL))
