-- Rows that hold masses, at a scale.
use Rattle.std.specs.Prelude.{◌≡◌, ℕ, ◌*◌, ◌<◌, Bool, cond, Option}
use Rattle.gcl_core.specs.declared.answers.Outcome.{Outcome}
use Rattle.gcl_core.specs.weighing.Fractions.{Fraction}
use Rattle.gcl_core.specs.weighing.Mass.{round_mass, failed_mass}
use Rattle.gcl_core.specs.meaning.Syntax.{SourceProgram}
use Rattle.numbers.specs.Fraction.{IsEqual}
use Rattle.table_flow.specs.Width.{round_width}
use Rattle.mass_fold.specs.Amounts.{held, AreHeld}
use Rattle.mass_fold.specs.inner.Rounds.{TableParts}
use Rattle.mass_fold.specs.Rows.{Rows}

abbrev pub counted : (Outcome → Bool) → Outcome → ℕ
counted meant x = cond (meant x) 1 0

-- for every set of outcomes, the rows hold as much as the masses give it
pub record HoldMasses (N : ℕ) (mass : (Outcome → Bool) → Fraction) (rows : Rows) : Type 0 where
  pub positive : 0 < N
  pub kept : AreHeld N rows
  pub fraction : (meant : Outcome → Bool) → 0 < (mass meant).1
  pub sums : (meant : Outcome → Bool) → (mass meant).1 * held N (counted meant) rows ≡ (mass meant).0 * N

-- the rows of one round, with the weight of a failed one
pub record RoundGives (p : SourceProgram) (n : ℕ) (r : Option ℕ) (rows : Rows) (f : Fraction) : Type 0 where
  pub holds : HoldMasses (round_width p n r) (round_mass p n r) rows
  pub parts : TableParts (round_width p n r) rows f
  pub failed : IsEqual f (failed_mass p n r)
  pub fails : 0 < (failed_mass p n r).1
