-- Two bounds of a mass, in units, from what one round has at least. The upper one is what all other outcomes leave of the whole where
-- they have no more than their least, since all masses add up to 1. This project's own rule.
use Rattle.std.specs.Prelude.{ℕ, ◌+◌, ◌-◌, ◌*◌, ◌/◌, Bool, true, Option, Some, None, not, if◌then◌else◌}
use Rattle.std.specs.Int.{div_ceil}
use Rattle.numbers.specs.declared.units.TheConstants.{ALL}
use Rattle.numbers.specs.Fraction.{lowest}
use Rattle.gcl_core.specs.declared.answers.Limit.TheVariants.{Rounds}
use Rattle.gcl_core.specs.declared.answers.Outcome.{Outcome}
use Rattle.gcl_core.specs.declared.answers.Outcome.TheVariants as outcome
use Rattle.gcl_core.specs.weighing.Fractions.{Fraction}
use Rattle.units_law.specs.SomeRounds.{in_rounds}

-- ---- a part of a whole, rounded to units of which ALL make 1
abbrev pub rounded_down : ℕ → ℕ → Fraction
rounded_down part whole = lowest (part * ALL / whole, ALL)

abbrev pub rounded_up : ℕ → ℕ → Fraction
rounded_up part whole = lowest (div_ceil (part * ALL) whole, ALL)

-- ---- from one round

-- the whole: without a limit of rounds what does not fail
abbrev pub whole_of : Option ℕ → ℕ → ℕ
whole_of None failed = ALL - failed
whole_of (Some R) failed = ALL

-- what outcomes have of it at least, from the units that one round gives them; with a limit of R rounds, the limit of rounds has what
-- fails in all of them
abbrev pub least_of : Option ℕ → (failed given : ℕ) → (Outcome → Bool) → ℕ
least_of None failed given meant = given
least_of (Some R) failed given meant =
    let all = in_rounds (failed, given) R in
    all.1 + (if meant (outcome.Limit Rounds) then all.0 else 0)

-- of one round, `failed` are the units that fail, and `given` those of any set of outcomes
module _ (R : Option ℕ) (failed : ℕ) (given : (Outcome → Bool) → ℕ) where
  abbrev pub whole : ℕ
  whole = whole_of R failed

  abbrev pub least : (Outcome → Bool) → ℕ
  least meant = least_of R failed (given meant) meant

  abbrev pub most : (Outcome → Bool) → ℕ
  most meant = whole - least (λ x. not (meant x))

  -- what no outcome has
  abbrev pub lost : ℕ
  lost = whole - least (λ x. true)
