-- The lines of masses where nothing is limited, outcomes ascending, with d decimals. Their fractions are as wide as they come.
use Rattle.std.specs.Prelude.{◌≡◌, ℕ, ◌==◌, List, [], ◌++◌, if◌then◌else◌}
use Rattle.exact_fold.specs.InTheLimit.{IsExactInTheLimit}
use Rattle.gcl_core.specs.declared.answers.Outcome.{Outcome}
use Rattle.gcl_core.specs.meaning.Syntax.{SourceProgram}
use Rattle.gcl_core.specs.weighing.Fractions.{Fraction}
use Rattle.mass_fold.specs.Rows.{Rows}
use Rattle.report_text.specs.RowLines.{rows_text}
use Rattle.wide_text.specs.WideLines.{wide_mass_text, wide_endless_text}

-- each outcome with its mass
abbrev pub exact_rows_text : ℕ → List (Outcome × Fraction) → List ℕ
exact_rows_text d rows = rows_text (λ row. wide_mass_text d row.0 row.1) rows

-- and what never ends, if that is above 0
abbrev pub exact_lines : ℕ → List (Outcome × Fraction) → Fraction → List ℕ
exact_lines d rows endless = exact_rows_text d rows ++ (if endless.0 == 0 then [] else wide_endless_text d endless)

-- those of exactly these masses
pub record AreExactLines (p : SourceProgram) (d : ℕ) (text : List ℕ) : Type 0 where
  pub rows : Rows
  pub endless : Fraction
  pub exact : IsExactInTheLimit p rows endless
  pub lines : text ≡ exact_lines d rows endless
