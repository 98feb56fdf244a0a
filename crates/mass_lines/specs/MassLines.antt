-- The lines of masses, outcomes ascending, with d decimals.
use Rattle.std.specs.Prelude.{◌≡◌, ℕ, All, List, Option, IfNone}
use Rattle.gcl_core.specs.declared.answers.Outcome.{Outcome}
use Rattle.gcl_core.specs.meaning.Syntax.{SourceProgram}
use Rattle.gcl_core.specs.weighing.Fractions.{Fraction, IsBelowOne}
use Rattle.gcl_core.specs.weighing.Mass.{failed_mass, mass_of}
use Rattle.mass_fold.specs.Rows.{Rows, AreMasses}
use Rattle.report_text.specs.Lines.{mass_text}
use Rattle.mass_lines.specs.Narrow.{IsNarrow}
use Rattle.report_text.specs.RowLines.{rows_text}

-- each outcome with its mass
abbrev pub mass_rows_text : ℕ → List (Outcome × Fraction) → List ℕ
mass_rows_text d rows = rows_text (λ row. mass_text d row.0 row.1) rows

-- Those of exactly the masses above 0, in lowest terms. Without a limit of rounds there are none where every round fails.
pub record AreMassLines (p : SourceProgram) (turns : ℕ) (attempts rounds : Option ℕ) (d : ℕ) (text : List ℕ) : Type 0 where
  pub rows : Rows
  pub exact : AreMasses (mass_of p turns attempts rounds) rows
  pub passes : IfNone rounds (IsBelowOne (failed_mass p turns attempts))
  pub narrow : All (λ row. IsNarrow row.1) rows
  pub lines : text ≡ mass_rows_text d rows
