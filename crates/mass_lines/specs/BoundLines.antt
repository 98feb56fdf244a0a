-- The lines of bounds, outcomes ascending, with d decimals.
use Rattle.std.specs.Prelude.{◌≡◌, ℕ, ◌==◌, ◌≤◌, All, List, [], ◌++◌, if◌then◌else◌}
use Rattle.numbers.specs.Fraction.{lowest}
use Rattle.gcl_core.specs.declared.answers.Outcome.{Outcome}
use Rattle.gcl_core.specs.meaning.Syntax.{SourceProgram}
use Rattle.gcl_core.specs.weighing.Fractions.{Fraction, IsBelowOne}
use Rattle.bounds_law.specs.PosteriorBounds.{fails, upper_of_others}
use Rattle.bounds_law.specs.Rows.{Rows, AreBoundsOf, HoldAt}
use Rattle.report_text.specs.Lines.{bound_text, other_text}
use Rattle.mass_lines.specs.Narrow.{IsNarrow}
use Rattle.report_text.specs.RowLines.{rows_text}

-- each value and fault with its bounds
abbrev pub bound_rows_text : ℕ → List (Outcome × Fraction × Fraction) → List ℕ
bound_rows_text d rows = rows_text (λ row. bound_text d row.0 row.1 row.2) rows

-- and what all others have at most, if that is above 0
abbrev pub bound_lines : ℕ → List (Outcome × Fraction × Fraction) → Fraction → List ℕ
bound_lines d rows other = bound_rows_text d rows ++ (if other.0 == 0 then [] else other_text d other)

-- those of exactly the bounds at n turns, which hold at every greater limit of turns; there are none where every round fails
pub record AreBoundLines (p : SourceProgram) (n d : ℕ) (text : List ℕ) : Type 0 where
  pub rows : Rows
  pub other : Fraction
  pub exact : AreBoundsOf p n rows
  pub others : other ≡ lowest (upper_of_others p n)
  pub narrow : All (λ row. IsNarrow row.1 × IsNarrow row.2) rows
  pub narrow_others : IsNarrow other
  pub passes : IsBelowOne (fails p n)
  pub hold : (n' : ℕ) → n ≤ n' → IsBelowOne (fails p n') → HoldAt p n' rows other
  pub lines : text ≡ bound_lines d rows other
