-- The bounds of the masses at one limit of turns, row by row: each mass, and it with what ran out of turns. A limit has none.
use Rattle.std.specs.Prelude.{◌≡◌, true, [], ◌∷◌, Contains, None, if◌then◌else◌}
use Rattle.numbers.specs.Fraction.{lowest}
use Rattle.numbers.specs.Arithmetic.{sum_of}
use Rattle.gcl_core.specs.declared.answers.Outcome.{Outcome}
use Rattle.gcl_core.specs.weighing.Fractions.{Fraction, zero_share, plus}
use Rattle.gcl_core.specs.meaning.Outcomes.{same_outcome, is_settled}
use Rattle.mass_fold.specs.declared.error.MassError.{MassError}
use Rattle.mass_fold.specs.declared.error.MassError.TheVariants.{TooWide, TooManyStates, AllFailed, OutOfMemory}
use Rattle.mass_fold.specs.Rows as masses
use Rattle.bounds_law.specs.Rows.{Rows}

-- the mass in the row of an outcome, and nothing where it has none
abbrev pub mass_in : Outcome → masses.Rows → Fraction
mass_in x [] = lowest zero_share
mass_in x (row ∷ rows) = if same_outcome x row.0 then row.1 else mass_in x rows

abbrev pub raised : Fraction → masses.Rows → Rows
raised other [] = []
raised other (row ∷ rows) =
    if is_settled row.0 then (row.0, row.1, lowest (plus row.1 other)) ∷ raised other rows else raised other rows

-- the mass of a value or fault and the other have no sum that fits
pub record IsTooWide (other : Fraction) (rows : masses.Rows) : Type 0 where
  pub outcome : Outcome
  pub mass : Fraction
  pub row : Contains rows (outcome, mass)
  pub settled : is_settled outcome ≡ true
  pub sum : sum_of mass other ≡ None

abbrev pub RaiseRefused : MassError → Fraction → masses.Rows → Type 0
RaiseRefused TooWide other rows = IsTooWide other rows
RaiseRefused TooManyStates other rows = ⊥
RaiseRefused AllFailed other rows = ⊥
RaiseRefused OutOfMemory other rows = Unit {0}
