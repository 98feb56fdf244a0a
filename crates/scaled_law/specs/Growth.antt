-- How a round over pairs is steered: units become as small as what has not failed allows, and a loop is left where no state in it has a
-- unit at least. This project's own rule.
use Rattle.std.specs.Prelude.{ℕ, ◌+◌, ◌^◌, ◌==◌, cond, List, [], ◌∷◌, Option}
use Rattle.numbers.specs.declared.units.TheConstants.{ALL}
use Rattle.gcl_core.specs.meaning.Draw.{bits_for}
use Rattle.gcl_core.specs.meaning.Syntax.{SourceProgram}
use Rattle.gcl_core.specs.meaning.Value.{State}
use Rattle.gcl_core.specs.weighing.Fractions.{Fraction}
use Rattle.gcl_core.specs.weighing.Mass.{is_failed}
use Rattle.units_law.specs.Down.{down}
use Rattle.units_law.specs.Units.{held, total}
use Rattle.scaled_law.specs.Pairs.{Pairs, at_least, at_most}
use Rattle.scaled_law.specs.Scaled.{Scaled, Steering, round_scaled}
use Rattle.scaled_law.specs.Up.{up}

-- the units of what has not failed, at most
abbrev pub all_most : List (Pairs State) → ℕ
all_most [] = 0
all_most (K ∷ Ks) = total (at_most K) + all_most Ks

abbrev pub left_of : Scaled → ℕ
left_of f = total (at_most f.next) + (all_most f.aside + (held (λ x. cond (is_failed x) 0 1) (at_most f.ended) + f.loose.1))

-- the least power of two that w fits into becomes ALL; where no state goes on, all stays
abbrev pub growth : Pairs State → ℕ → Fraction
growth [] w = (1, 1)
growth (e ∷ es) w = (ALL, 2 ^ bits_for w)

abbrev pub growing : Steering
growing = record { factor = λ f. growth f.next (left_of f); leaves = λ J. total (at_least J) == 0 }

-- the round of a program, rounded down and up, and steered so
abbrev pub grown_round : SourceProgram → ℕ → Option ℕ → Scaled
grown_round p n r = round_scaled down up growing p n r
