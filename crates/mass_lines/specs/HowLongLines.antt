-- The lines of how long a run takes where nothing is limited: of the bits that it reads on average, and of what else is counted of it.
use Rattle.std.specs.Prelude.{◌≡◌, ◌⊎◌, ℕ, List, ◌++◌, codes}
use Rattle.bits_law.specs.Price.{draws_price, turns_price}
use Rattle.bits_law.specs.Rounds.{expected_rounds}
use Rattle.bits_law.specs.RunPrice.{expected_price}
use Rattle.gcl_core.specs.declared.answers.Limits.{Limits}
use Rattle.gcl_core.specs.meaning.Syntax.{SourceProgram}
use Rattle.gcl_core.specs.weighing.Fractions.{Fraction}
use Rattle.mass_lines.specs.ExpectedLines.{IsCountLine, IsExpectedLine}

-- that nothing is said of a count
abbrev pub unknown_count_text : List ℕ → List ℕ
unknown_count_text word = word ++ codes " unknown\n"

-- The line of a count, or that nothing is said: a line may always be unknown, whatever the program.
abbrev pub MayBeCountLine : List ℕ → (Limits → Fraction) → ℕ → List ℕ → Type 0
MayBeCountLine word under d text = IsCountLine word under d text ⊎ (text ≡ unknown_count_text word)

abbrev pub IsRoundsLine : SourceProgram → ℕ → List ℕ → Type 0
IsRoundsLine p = IsCountLine (codes "rounds") (expected_rounds p)

abbrev pub IsDrawsLine : SourceProgram → ℕ → List ℕ → Type 0
IsDrawsLine p = MayBeCountLine (codes "draws") (expected_price draws_price p)

abbrev pub IsTurnsLine : SourceProgram → ℕ → List ℕ → Type 0
IsTurnsLine p = MayBeCountLine (codes "turns") (expected_price turns_price p)

-- the line of bits, and behind it those of rounds, of draws and of turns of loops
pub record AreHowLongLines (p : SourceProgram) (d : ℕ) (text : List ℕ) : Type 0 where
  pub bits : List ℕ
  pub rounds : List ℕ
  pub draws : List ℕ
  pub turns : List ℕ
  pub of_bits : IsExpectedLine p d bits
  pub of_rounds : IsRoundsLine p d rounds
  pub of_draws : IsDrawsLine p d draws
  pub of_turns : IsTurnsLine p d turns
  pub lines : text ≡ bits ++ rounds ++ draws ++ turns
