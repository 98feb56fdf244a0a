-- The mass of an outcome: the fraction that the statements give it, with rounds that fail an observation begun anew, as in cpGCL
-- normalised by the probability that a round does not fail. Under a limit of rounds what is left is the mass of that limit.
use Rattle.std.specs.Prelude.{ℕ, Bool, true, false, [], ◌∷◌, length, Option, Some, None, if◌then◌else◌}
use Rattle.gcl_core.specs.declared.answers.Limit.TheVariants.{Rounds}
use Rattle.gcl_core.specs.declared.answers.Outcome.{Outcome}
use Rattle.gcl_core.specs.declared.answers.Outcome.TheVariants as outcome
use Rattle.gcl_core.specs.meaning.Outcomes.{same_outcome, zeros, outcome_of}
use Rattle.gcl_core.specs.meaning.Syntax.{Expression, SourceProgram}
use Rattle.gcl_core.specs.meaning.Value.{value_of}
use Rattle.gcl_core.specs.meaning.Blocks.{End, on, failed, fault, limit}
use Rattle.gcl_core.specs.weighing.Fractions.{Fraction, zero_share, plus, times, power, power_sum, divided_by_rest}
use Rattle.gcl_core.specs.weighing.WeightedEnds.{Weighted, weighted_ends}

-- ---- one round

-- the weights of the entries that are meant, added
abbrev pub sum_of : {A : Type 0} → (A → Bool) → Weighted A → Fraction
sum_of meant [] = zero_share
sum_of meant (e ∷ m) = if meant e.1 then plus e.0 (sum_of meant m) else sum_of meant m

-- an end of the body that ends the run in an outcome that is meant
abbrev pub ends_in : Expression → (Outcome → Bool) → End → Bool
ends_in result meant (on s) = meant (outcome_of (value_of result s))
ends_in result meant failed = false
ends_in result meant (fault f) = meant (outcome.Fault f)
ends_in result meant (limit l) = meant (outcome.Limit l)

abbrev pub is_failed : End → Bool
is_failed failed = true
is_failed _ = false

-- under a limit of n turns, and of r attempts or none
module _ (p : SourceProgram) (n : ℕ) (r : Option ℕ) where
  -- what a round gives the outcomes that are meant
  abbrev pub round_mass : (Outcome → Bool) → Fraction
  round_mass meant = sum_of (ends_in p.result meant) (weighted_ends n r p.body (zeros (length p.names)))

  -- that a round fails
  abbrev pub failed_mass : Fraction
  failed_mass = sum_of is_failed (weighted_ends n r p.body (zeros (length p.names)))

  -- ---- all rounds

  -- The outcomes that are meant, in one of R rounds, and the limit of rounds where it is meant and all have failed. Without a
  -- limit of rounds, where a round fails with probability below 1, what a round gives is divided by the probability that it does
  -- not fail.
  abbrev pub mass_of_those : Option ℕ → (Outcome → Bool) → Fraction
  mass_of_those (Some R) meant =
      plus (times (round_mass meant) (power_sum failed_mass R))
      (if meant (outcome.Limit Rounds) then power failed_mass R else zero_share)
  mass_of_those None meant = divided_by_rest (round_mass meant) failed_mass

  abbrev pub mass_of : Option ℕ → Outcome → Fraction
  mass_of R x = mass_of_those R (same_outcome x)
