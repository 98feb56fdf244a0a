-- The line of the bits that a run reads on average.
use Rattle.std.specs.Prelude.{◌≡◌, ℕ, List}
use Rattle.numbers.specs.Fraction.{lowest}
use Rattle.gcl_core.specs.declared.answers.Limits.{Limits}
use Rattle.gcl_core.specs.meaning.Syntax.{SourceProgram}
use Rattle.gcl_core.specs.weighing.Fractions.{Fraction}
use Rattle.bits_law.specs.Price.{bits_price}
use Rattle.bits_law.specs.RunPrice.{expected_price}
use Rattle.report_text.specs.Lines.{cost_text}
use Rattle.mass_lines.specs.Narrow.{IsNarrow}

-- that of exactly their number, in lowest terms, with d decimals
pub record IsBitLine (p : SourceProgram) (l : Limits) (d : ℕ) (text : List ℕ) : Type 0 where
  pub bits : Fraction
  pub exact : bits ≡ lowest (expected_price bits_price p l)
  pub narrow : IsNarrow bits
  pub line : text ≡ cost_text d bits
