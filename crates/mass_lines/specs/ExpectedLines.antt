-- The line of what a run costs on average where nothing is limited, behind its word: of bits, and of whatever else is counted.
use Rattle.std.specs.Prelude.{◌≡◌, ℕ, List, ◌++◌, codes}
use Rattle.bits_law.specs.InTheLimit.{ComesTo, HasNoBound}
use Rattle.bits_law.specs.Price.{bits_price}
use Rattle.bits_law.specs.RunPrice.{expected_price}
use Rattle.gcl_core.specs.declared.answers.Limits.{Limits}
use Rattle.gcl_core.specs.meaning.Syntax.{SourceProgram}
use Rattle.gcl_core.specs.weighing.Fractions.{Fraction}
use Rattle.numbers.specs.Arithmetic.{InLowest}
use Rattle.report_text.specs.declared.decimals.Rounding.TheVariants.{Nearest}
use Rattle.report_text.specs.Decimals.{decimals_text}
use Rattle.report_text.specs.Lines.{fraction_text}
use Rattle.mass_lines.specs.Narrow.{IsNarrow}

module _ (word : List ℕ) where
  -- an expected number, with d decimals
  abbrev pub count_text : ℕ → Fraction → List ℕ
  count_text d number = word ++ (codes " " ++ fraction_text number ++ decimals_text Nearest d number ++ codes "\n")

  -- that it has no bound
  abbrev pub unbounded_count_text : List ℕ
  unbounded_count_text = word ++ codes " unbounded\n"

  -- what the expected number under limits comes to as all limits grow, in lowest terms, or that it has no bound
  pub data IsCountLine (under : Limits → Fraction) (d : ℕ) (text : List ℕ) : Type 0 where
    told : (number : Fraction) → ComesTo under number → InLowest number → IsNarrow number → text ≡ count_text d number → IsCountLine under d text
    without_bound : HasNoBound under → text ≡ unbounded_count_text → IsCountLine under d text

abbrev pub IsExpectedLine : SourceProgram → ℕ → List ℕ → Type 0
IsExpectedLine p = IsCountLine (codes "bits") (expected_price bits_price p)
