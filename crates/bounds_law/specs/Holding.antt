-- The law of the bounds: they hold for every greater limit of turns, and lie within those of every lesser one. This project's own
-- rule.
use Rattle.std.specs.Prelude.{◌≡◌, ℕ, ◌≤◌, Bool, true, false, None}
use Rattle.numbers.specs.Fraction.{IsEqual}
use Rattle.gcl_core.specs.declared.answers.Limit.TheVariants.{Turns}
use Rattle.gcl_core.specs.declared.answers.Outcome.{Outcome}
use Rattle.gcl_core.specs.declared.answers.Outcome.TheVariants as outcome
use Rattle.gcl_core.specs.weighing.Fractions.{plus, AtMost, IsBelowOne}
use Rattle.gcl_core.specs.weighing.Mass.{mass_of_those}
use Rattle.gcl_core.specs.meaning.Outcomes.{same_outcome, is_settled}
use Rattle.gcl_core.specs.meaning.Syntax.{SourceProgram}
use Rattle.bounds_law.specs.PosteriorBounds.{fails, given, lower_of_those, upper_of_those, upper_of_others}

-- The bounds at n turns are fractions. Whatever is meant, they are as far apart as the bound of all others says.
pub record AreBounds (p : SourceProgram) (n : ℕ) (meant : Outcome → Bool) : Type 0 where
  pub lower_fraction : 1 ≤ (lower_of_those p n meant).1
  pub upper_fraction : 1 ≤ (upper_of_those p n meant).1
  pub width : IsEqual (plus (lower_of_those p n meant) (upper_of_others p n)) (upper_of_those p n meant)

-- The mass of the outcomes that are meant, at n' turns, lies between their bounds at n turns, both included (`from_below`,
-- `from_above`). Their bounds at n' lie within those at n: the lower one at n' is that mass, and the upper one is at most that
-- at n (`upper_falls`). Where a round of n turns gives them nothing, their mass and their upper bound at n' are at most the
-- bound of all others at n (`among_others`, `new_falls`).
pub record IsBounded (p : SourceProgram) (n n' : ℕ) (meant : Outcome → Bool) : Type 0 where
  pub fraction : 1 ≤ (mass_of_those p n' None None meant).1
  pub from_below : AtMost (lower_of_those p n meant) (mass_of_those p n' None None meant)
  pub from_above : AtMost (mass_of_those p n' None None meant) (upper_of_those p n meant)
  pub among_others : (given p n meant).0 ≡ 0 → AtMost (mass_of_those p n' None None meant) (upper_of_others p n)
  pub upper_falls : AtMost (upper_of_those p n' meant) (upper_of_those p n meant)
  pub new_falls : (given p n meant).0 ≡ 0 → AtMost (upper_of_those p n' meant) (upper_of_others p n)
  pub before : AreBounds p n meant
  pub after : AreBounds p n' meant

-- So it is for each value and each fault, and for whatever outcomes are meant, where the limit of turns is not among them: all to
-- which a round gave nothing have together at most the bound of all others. That bound does not rise. At n turns too a round
-- fails with less than all weight.
pub record BoundsHold (p : SourceProgram) (n n' : ℕ) : Type 0 where
  pub outcomes : (x : Outcome) → is_settled x ≡ true → IsBounded p n n' (same_outcome x)
  pub events : (meant : Outcome → Bool) → meant (outcome.Limit Turns) ≡ false → IsBounded p n n' meant
  pub others_fall : AtMost (upper_of_others p n') (upper_of_others p n)
  pub others_before : 1 ≤ (upper_of_others p n).1
  pub others_after : 1 ≤ (upper_of_others p n').1
  pub passes : IsBelowOne (fails p n)
