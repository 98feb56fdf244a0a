-- What a run of a program answers on a list of bits. A failed observation begins a new round, as in cpGCL the mass that does
-- not fail an observation is what counts; the limit of rounds and the count of bits are this project's own rule.
use Rattle.std.specs.Prelude.{ℕ, zero, suc, ◌-◌, ◌^◌, min, Bool, List, [], length}
use Rattle.gcl_core.specs.declared.answers.Limit.TheVariants.{Rounds}
use Rattle.gcl_core.specs.declared.answers.Outcome.{Outcome}
use Rattle.gcl_core.specs.declared.answers.Outcome.TheVariants as outcome
use Rattle.gcl_core.specs.declared.answers.Answer.{Answer}
use Rattle.gcl_core.specs.declared.answers.Answer.TheVariants.{Ended, MoreBits}
use Rattle.gcl_core.specs.declared.answers.Limits.{Limits}
use Rattle.gcl_core.specs.meaning.Syntax.{Expression, SourceProgram}
use Rattle.gcl_core.specs.meaning.Value.{value_of}
use Rattle.gcl_core.specs.meaning.Reading.{Reading, gives, more_bits, after}
use Rattle.gcl_core.specs.meaning.Blocks.{End, on, failed, fault, limit, block_on}
use Rattle.gcl_core.specs.meaning.Outcomes.{zeros, outcome_of}

-- an end of the body ends the run, but for a failed observation
abbrev pub by_round : {A : Type 0} → End → Expression → (Outcome → A) → A → A
by_round (on s) result stop again = stop (outcome_of (value_of result s))
by_round failed result stop again = again
by_round (fault f) result stop again = stop (outcome.Fault f)
by_round (limit l) result stop again = stop (outcome.Limit l)

-- At most R rounds of a body, until one ends the run in an outcome.
abbrev pub rounds_with : (List Bool → Reading End) → Expression → ℕ → List Bool → Reading Outcome
rounds_with body result zero w = gives (outcome.Limit Rounds) w
rounds_with body result (suc R) w =
    after (body w) (λ e rest. by_round e result (λ x. gives x rest) (rounds_with body result R rest))

abbrev pub rounds_on : SourceProgram → ℕ → ℕ → ℕ → List Bool → Reading Outcome
rounds_on p n r R w = rounds_with (block_on n r p.body (zeros (length p.names))) p.result R w

-- a run of the program: its outcome, with the bits that it leaves
abbrev pub reads : SourceProgram → Limits → List Bool → Reading Outcome
reads p l w = rounds_on p l.turns l.attempts l.rounds w

-- the bits that a reading leaves; none where it needs more
abbrev pub left_by : {A : Type 0} → Reading A → List Bool
left_by (gives x rest) = rest
left_by more_bits = []

-- the number of bits read saturates at 2 ^ 64 - 1
abbrev pub capped : ℕ → ℕ
capped n = min n (2 ^ 64 - 1)

abbrev pub answer_of : List Bool → Reading Outcome → Answer
answer_of w (gives x rest) = Ended x (capped (length w - length rest))
answer_of w more_bits = MoreBits (capped (length w))

-- the run on bits: its outcome with the number of bits read, or that it needs a bit beyond them
abbrev pub run_on : SourceProgram → Limits → List Bool → Answer
run_on p l w = answer_of w (reads p l w)
