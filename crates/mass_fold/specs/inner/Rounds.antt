-- What further rounds make of the weights of one round, at a scale.
use Rattle.std.specs.Prelude.{◌≡◌, ℕ, ◌+◌, ◌-◌, ◌*◌, ◌<◌, ◌≤◌}
use Rattle.gcl_core.specs.declared.answers.Limit.TheVariants.{Rounds}
use Rattle.gcl_core.specs.declared.answers.Outcome.{Outcome}
use Rattle.gcl_core.specs.declared.answers.Outcome.TheVariants as outcome
use Rattle.gcl_core.specs.weighing.Fractions.{Fraction, power}
use Rattle.table_flow.specs.Scale.{whole, Whole}
use Rattle.mass_fold.specs.declared.error.MassError.{MassError}
use Rattle.mass_fold.specs.Amounts.{held, AreHeld}
use Rattle.mass_fold.specs.inner.Amounts.{Blames}
use Rattle.mass_fold.specs.Rows.{Rows}
use Rattle.mass_fold.specs.Rounds.{geometric, scale_of}

-- s and f are parts of one whole
pub record ArePartsOfOne (N : ℕ) (s f : Fraction) : Type 0 where
  pub positive : 0 < N
  pub first : Whole N s
  pub second : Whole N f
  pub sum : whole N s + whole N f ≤ N

-- the weights of a table and f are parts of one whole
pub record TableParts (N : ℕ) (rows : Rows) (f : Fraction) : Type 0 where
  pub positive : 0 < N
  pub kept : AreHeld N rows
  pub failed : Whole N f
  pub sum : held N (λ x. 1) rows + whole N f ≤ N

-- the weights of a table in R rounds, and the limit of rounds, in which all of them failed
abbrev pub InRounds : Fraction → ℕ → Rows → Rows → Type 0
InRounds f R rows masses = (N : ℕ) → TableParts N rows f → AreHeld (scale_of N f R) masses
    × ((G : Outcome → ℕ)
    → held (scale_of N f R) G masses
    ≡ geometric f R * held N G rows + whole (scale_of N f R) (power f R) * G (outcome.Limit Rounds))

abbrev pub RoundsBlame : MassError → Fraction → ℕ → Rows → Type 0
RoundsBlame e f R rows = (N L : ℕ) → TableParts N rows f → Blames e (scale_of N f R) L

-- the weights of a table, each over what does not fail
abbrev pub OverRest : Fraction → Rows → Rows → Type 0
OverRest f rows masses = (N : ℕ) → TableParts N rows f
    → AreHeld (N - whole N f) masses × ((G : Outcome → ℕ) → held (N - whole N f) G masses ≡ held N G rows)

abbrev pub OverRestBlames : MassError → Fraction → Rows → Type 0
OverRestBlames e f rows = (N L : ℕ) → TableParts N rows f → Blames e N L
