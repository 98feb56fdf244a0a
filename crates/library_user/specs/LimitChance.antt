-- A chance in the limit of turns: without limits of attempts and of rounds, the masses at n turns are never above it, and short of it
-- by at most an n-th of some rate. Where there is none, each is 0.
use Rattle.std.specs.Prelude.{◌≡◌, ℕ, ◌≤◌, true, Option, Some, None}
use Rattle.gcl_core.specs.declared.answers.Outcome.{Outcome}
use Rattle.gcl_core.specs.meaning.Syntax.{SourceProgram}
use Rattle.gcl_core.specs.weighing.Fractions.{Fraction}
use Rattle.gcl_core.specs.weighing.Mass.{mass_of}
use Rattle.unlimited_law.specs.SettledMasses.{IsNear}

abbrev pub IsLimitChance : SourceProgram → Outcome → Option Fraction → Type 0
IsLimitChance p x (Some f) = (rate : Fraction) × ((n : ℕ) → 1 ≤ n → IsNear n rate (mass_of p n None None x) f)
IsLimitChance p x None = (n : ℕ) → 1 ≤ n → (mass_of p n None None x).0 ≡ 0
