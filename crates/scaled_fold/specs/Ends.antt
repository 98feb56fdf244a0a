-- What a round over pairs says of masses by its outcomes, each with its units at least and at most, and what is loose. For every greater
-- limit of turns too, what ran out of turns counts for no outcome at least, and for all at most. This project's own rule.
use Rattle.std.specs.Prelude.{ℕ, ◌+◌, Bool, cond, not, Option, None}
use Rattle.gcl_core.specs.declared.answers.Outcome.{Outcome}
use Rattle.gcl_core.specs.meaning.Syntax.{SourceProgram}
use Rattle.gcl_core.specs.weighing.Fractions.{AtMost}
use Rattle.gcl_core.specs.weighing.Mass.{mass_of_those}
use Rattle.units_law.specs.Units.{held}
use Rattle.scaled_law.specs.Given.{stay, may_be, beside}
use Rattle.scaled_law.specs.Pairs.{Pairs, at_least, at_most}

-- the units of the outcomes that are meant
abbrev pub least_in : (Outcome → Bool) → Pairs Outcome → ℕ
least_in meant K = held (λ x. cond (meant x) 1 0) (at_least K)

abbrev pub most_in : (Outcome → Bool) → Pairs Outcome → ℕ
most_in meant K = held (λ x. cond (meant x) 1 0) (at_most K)

-- for one limit of turns, or for it and every greater one
module _ (all_turns : Bool) (K : Pairs Outcome) (loose : ℕ) where
  abbrev pub least_given : (Outcome → Bool) → ℕ
  least_given meant = least_in (stay all_turns meant) K

  abbrev pub most_given : (Outcome → Bool) → ℕ
  most_given meant = most_in (may_be all_turns meant) K + loose

  -- At n' turns the outcomes that are meant have at least what their units at least are beside those that all others have at most, and at
  -- most the reverse.
  pub record LieBeside (p : SourceProgram) (n' : ℕ) (r : Option ℕ) (meant : Outcome → Bool) : Type 0 where
    pub from_below : AtMost (beside (least_given meant) (most_given (λ x. not (meant x)))) (mass_of_those p n' r None meant)
    pub from_above : AtMost (mass_of_those p n' r None meant) (beside (most_given meant) (least_given (λ x. not (meant x))))
