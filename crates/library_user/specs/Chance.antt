-- A chance that is told: its fraction in lowest terms, or none, just where it is 0.
use Rattle.std.specs.Prelude.{◌≡◌, ◌<◌, Option, Some, None}
use Rattle.numbers.specs.Fraction.{Fraction, lowest}

abbrev pub IsChance : Option Fraction → Fraction → Type 0
IsChance (Some f) mass = (0 < mass.0) × (f ≡ lowest mass)
IsChance None mass = mass.0 ≡ 0
