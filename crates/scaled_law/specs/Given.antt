-- What a round over pairs gives outcomes, at least and at most, and between which two fractions their mass lies. What is loose counts for
-- all outcomes at most, and what fails for none. This project's own rule.
use Rattle.std.specs.Prelude.{ℕ, ◌+◌, ◌*◌, ◌≤◌, [], Bool, true, false, Option, None, not, ◌&&◌, ◌||◌}
use Rattle.gcl_core.specs.declared.answers.Outcome.{Outcome}
use Rattle.gcl_core.specs.declared.answers.Limit.TheVariants.{Turns}
use Rattle.gcl_core.specs.declared.answers.Outcome.TheVariants as outcome
use Rattle.gcl_core.specs.meaning.Outcomes.{same_outcome}
use Rattle.gcl_core.specs.meaning.Syntax.{SourceProgram}
use Rattle.gcl_core.specs.weighing.Fractions.{Fraction, AtMost}
use Rattle.gcl_core.specs.weighing.Mass.{mass_of_those}
use Rattle.units_law.specs.Flows.{UnitFlow}
use Rattle.units_law.specs.Rounds.{meant_units}
use Rattle.scaled_law.specs.Pairs.{at_least, at_most}
use Rattle.scaled_law.specs.Scaled.{Scaled}

-- the units of what stands after a round and of what ended in it, at least and at most
abbrev pub least_flow : Scaled → UnitFlow
least_flow f = record { next = at_least f.next; ended = at_least f.ended; tables = []; draws = []; reached = [] }

abbrev pub most_flow : Scaled → UnitFlow
most_flow f = record { next = at_most f.next; ended = at_most f.ended; tables = []; draws = []; reached = [] }

-- Of the outcomes that are meant, those that stay so at every greater limit of turns, and all that may become so: what ran out of turns
-- may still come to any outcome.
abbrev pub stay : Bool → (Outcome → Bool) → Outcome → Bool
stay false meant = meant
stay true meant = λ x. meant x && not (same_outcome (outcome.Limit Turns) x)

abbrev pub may_be : Bool → (Outcome → Bool) → Outcome → Bool
may_be false meant = meant
may_be true meant = λ x. meant x || same_outcome (outcome.Limit Turns) x

-- the units of the outcomes that are meant, for one limit of turns or for every greater one
abbrev pub least_of : SourceProgram → Bool → (Outcome → Bool) → Scaled → ℕ
least_of p all_turns meant f = meant_units p (stay all_turns meant) (least_flow f)

abbrev pub most_of : SourceProgram → Bool → (Outcome → Bool) → Scaled → ℕ
most_of p all_turns meant f = meant_units p (may_be all_turns meant) (most_flow f) + f.loose.1

-- where a whole is S units, so many are at most this fraction of it, or at least
abbrev pub AreWithin : Fraction → ℕ → Fraction → Type 0
AreWithin S many q = many * (S.1 * q.1) ≤ q.0 * S.0

abbrev pub AreEnough : Fraction → ℕ → Fraction → Type 0
AreEnough S many q = q.0 * S.0 ≤ many * (S.1 * q.1)

-- l units of a whole of which others have h
abbrev pub beside : ℕ → ℕ → Fraction
beside l h = (l, l + h)

-- What is meant has at least its units at least, where all others have theirs at most, and at most the reverse.
pub record LiesBetween (p : SourceProgram) (n' : ℕ) (r : Option ℕ) (all_turns : Bool) (f : Scaled) (meant : Outcome → Bool) : Type 0 where
  pub from_below : AtMost (beside (least_of p all_turns meant f) (most_of p all_turns (λ x. not (meant x)) f)) (mass_of_those p n' r None meant)
  pub from_above : AtMost (mass_of_those p n' r None meant) (beside (most_of p all_turns meant f) (least_of p all_turns (λ x. not (meant x)) f))
