-- Blocks in which no run is out of turns.
use Rattle.std.specs.Prelude.{◌≡◌, Bool, true, false}
use Rattle.gcl_core.specs.declared.answers.Limit.TheVariants.{Turns, Attempts, Rounds}
use Rattle.gcl_core.specs.meaning.Blocks.{End, on, failed, fault, limit}
use Rattle.gcl_core.specs.weighing.Fractions.{Fraction}
use Rattle.gcl_core.specs.weighing.Mass.{sum_of}
use Rattle.gcl_core.specs.weighing.WeightedEnds.{Weighted}
use Rattle.table_flow.specs.Tables.{Flow}
use Rattle.unlimited_law.specs.Settling.{Outflow}

abbrev pub is_out_of_turns : End → Bool
is_out_of_turns (on s) = false
is_out_of_turns failed = false
is_out_of_turns (fault f) = false
is_out_of_turns (limit Turns) = true
is_out_of_turns (limit Attempts) = false
is_out_of_turns (limit Rounds) = false

-- nothing ended for want of turns
abbrev pub TurnsSuffice : Weighted End → Type 0
TurnsSuffice ended = (sum_of is_out_of_turns ended).0 ≡ 0

-- what a flow is as an outflow, with so many turns
abbrev pub flowed_in : Fraction → Flow → Outflow
flowed_in turns f = record { next = f.next; ended = f.ended; turns = turns }
