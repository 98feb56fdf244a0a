-- How wide the expected bits of a program are, and why they are refused. This project's own rule.
use Rattle.std.specs.Prelude.{ℕ, ◌+◌, ◌-◌, ◌*◌, ◌^◌, max, [], ◌∷◌, Some}
use Rattle.gcl_core.specs.declared.answers.Limits.{Limits}
use Rattle.gcl_core.specs.weighing.LongestReading.{longest}
use Rattle.gcl_core.specs.weighing.Mass.{failed_mass}
use Rattle.gcl_core.specs.meaning.Syntax.{SourceProgram}
use Rattle.cost_law.specs.ExpectedBits.{number_bits}
use Rattle.table_flow.specs.Tables.{ReachedDraws, tables_of}
use Rattle.table_flow.specs.Width.{denominator, round_width}

-- the most bits that one of the draws reads by at most r attempts, or 0
abbrev pub most_bits : ℕ → ReachedDraws → ℕ
most_bits r [] = 0
most_bits r (e ∷ m) = max (number_bits e.1 * r) (most_bits r m)

-- The common denominator of a round, times 2 to the most bits of a draw that it reaches, times the denominator of a failed round
-- for each further round, times what all rounds read at most.
abbrev pub spread : SourceProgram → Limits → ℕ
spread p l =
    round_width p l.turns (Some l.attempts) * 2 ^ most_bits l.attempts (tables_of p l.turns (Some l.attempts)).reached
    * denominator (failed_mass p l.turns (Some l.attempts)) ^ (l.rounds - 1)
    * l.rounds
    * (longest l.turns l.attempts p.body + 1)
