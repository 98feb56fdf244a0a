-- Between which two fractions the mass of any set of outcomes lies. This project's own rule.
use Rattle.std.specs.Prelude.{ℕ, ◌≤◌, Bool, Option}
use Rattle.gcl_core.specs.declared.answers.Outcome.{Outcome}
use Rattle.gcl_core.specs.meaning.Syntax.{SourceProgram}
use Rattle.gcl_core.specs.weighing.Fractions.{AtMost}
use Rattle.gcl_core.specs.weighing.Mass.{mass_of_those}
use Rattle.units_law.specs.Enclosures.{whole_units, least_units, most_units}

-- At n' turns, whatever outcomes are meant have a mass between what they have at least and at most of the whole, both included.
pub record IsBetween (p : SourceProgram) (n n' : ℕ) (r R : Option ℕ) (all_turns : Bool) (meant : Outcome → Bool) : Type 0 where
  pub fraction : 1 ≤ (mass_of_those p n' r R meant).1
  pub from_below : AtMost (least_units p n r R all_turns meant, whole_units p n r R all_turns) (mass_of_those p n' r R meant)
  pub from_above : AtMost (mass_of_those p n' r R meant) (most_units p n r R all_turns meant, whole_units p n r R all_turns)
