-- How many products a block rounds: of each draw that it reaches one for each class, and one for no class.
use Rattle.std.specs.Prelude.{ℕ, ◌+◌, [], ◌∷◌, Option, length}
use Rattle.gcl_core.specs.meaning.Syntax.{SourceProgram}
use Rattle.table_flow.specs.Tables.{ReachedDraws}
use Rattle.units_law.specs.Rounding.{Rounding}
use Rattle.units_law.specs.Rounds.{round_units}

abbrev pub roundings_of : ReachedDraws → ℕ
roundings_of [] = 0
roundings_of (d ∷ ds) = length d.1 + 1 + roundings_of ds

-- those of the body of a program, begun with the state of zeros at all units
abbrev pub round_roundings : Rounding → SourceProgram → ℕ → Option ℕ → ℕ
round_roundings cut p n r = roundings_of (round_units cut p n r).reached
