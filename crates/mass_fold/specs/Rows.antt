-- Rows of masses: outcomes ascend, each with its mass in lowest terms, and each outcome whose mass is above 0 has a row. This
-- project's own rule.
use Rattle.std.specs.Prelude.{◌≡◌, ◌<◌, true, List, [], ◌∷◌, map, AllPairs, Contains}
use Rattle.numbers.specs.Fraction.{lowest}
use Rattle.numbers.specs.Arithmetic.{InLowest}
use Rattle.gcl_core.specs.declared.answers.Outcome.{Outcome}
use Rattle.gcl_core.specs.weighing.Fractions.{Fraction}
use Rattle.gcl_core.specs.meaning.Order.{is_before}

abbrev pub Rows : Type 0
Rows = List (Outcome × Fraction)

abbrev pub outcomes_of : Rows → List Outcome
outcomes_of rows = map (λ row. row.0) rows

abbrev pub Ascending : Rows → Type 0
Ascending rows = AllPairs (λ x y. is_before x y ≡ true) (outcomes_of rows)

pub record AreMasses (mass : Outcome → Fraction) (rows : Rows) : Type 0 where
  pub ascending : Ascending rows
  pub each : (x : Outcome) (f : Fraction) → Contains rows (x, f) → (0 < (mass x).0) × (f ≡ lowest (mass x))
  pub all : (x : Outcome) → 0 < (mass x).0 → Contains rows (x, lowest (mass x))

-- each weight is in lowest terms
abbrev pub EachLowest : Rows → Type 0
EachLowest [] = Unit {0}
EachLowest (row ∷ rows) = InLowest row.1 × EachLowest rows
