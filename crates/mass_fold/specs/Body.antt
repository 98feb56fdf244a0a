-- What the bits of the draws of one round are, and what a mass is.
use Rattle.std.specs.Prelude.{◌≡◌, ℕ, ◌*◌, ◌<◌, ◌≤◌, Option, Some, None}
use Rattle.gcl_core.specs.meaning.Syntax.{SourceProgram}
use Rattle.numbers.specs.Fraction.{Overfills}
use Rattle.gcl_core.specs.weighing.Fractions.{Fraction}
use Rattle.table_flow.specs.Scale.{whole, Whole, amount}
use Rattle.table_flow.specs.Tables.{tables_of}
use Rattle.table_flow.specs.Width.{round_width}
use Rattle.mass_fold.specs.Metering.{Priced, price}

-- `many` / X bits; none only where, for every bound C of these, 128 bits are too few for X * C
abbrev pub BitsAt : ℕ → ℕ → Option Fraction → Type 0
BitsAt X many (Some f) = Whole X f × (whole X f ≡ many)
BitsAt X many None = (C : ℕ) → 1 ≤ C → many ≤ X * C → Overfills (X * C)

-- the bits of all draws that a round reaches
abbrev pub RoundBits : SourceProgram → ℕ → Option ℕ → Option Fraction → Type 0
RoundBits p n r bits = (M : ℕ) → 0 < M → Priced r M (tables_of p n r).reached
    → BitsAt (round_width p n r * M) (amount (round_width p n r) (price r M) (tables_of p n r).reached) bits

-- a whole number of N parts, and no more than all
pub record IsMass (N : ℕ) (f : Fraction) : Type 0 where
  pub parts : Whole N f
  pub at_most_all : whole N f ≤ N
