-- How the fold steers a round over pairs: all units are doubled as often as what has not failed still stays within ALL, and a loop is left
-- where no state in it has a unit at least. This project's own rule.
use Rattle.std.specs.Prelude.{ℕ, zero, suc, ◌*◌, ◌==◌, if◌then◌else◌, nat_le, Option}
use Rattle.numbers.specs.declared.units.TheConstants.{ALL}
use Rattle.gcl_core.specs.meaning.Syntax.{SourceProgram}
use Rattle.units_law.specs.Down.{down}
use Rattle.units_law.specs.Units.{total}
use Rattle.scaled_law.specs.Growth.{left_of}
use Rattle.scaled_law.specs.Pairs.{at_least}
use Rattle.scaled_law.specs.Scaled.{Scaled, Steering, round_scaled}
use Rattle.scaled_law.specs.Up.{up}

-- two to the number of times, at most t, that w may be doubled within ALL
abbrev pub doubled : ℕ → ℕ → ℕ
doubled zero w = 1
doubled (suc t) w = if nat_le (2 * w) ALL then 2 * doubled t (2 * w) else 1

-- how many times as many units are taken where w have not failed
unfoldable pub times_for : ℕ → ℕ
times_for w = doubled 120 w

abbrev pub doubling : Steering
doubling = record { factor = λ f. (times_for (left_of f), 1); leaves = λ J. total (at_least J) == 0 }

-- the round of a program, rounded down and up, and steered so
abbrev pub doubled_round : SourceProgram → ℕ → Option ℕ → Scaled
doubled_round p n r = round_scaled down up doubling p n r
