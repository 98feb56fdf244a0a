-- Outcomes: whether two are the same, and whether one is a limit; the state in which a round begins, and the outcome of a result.
-- This project's own outcomes are values, faults and limits.
use Rattle.std.specs.Prelude.{ℕ, pos, Bool, true, false, Ok, Err, replicate}
use Rattle.std.specs.Ordering.{int_eq}
use Rattle.gcl_core.specs.declared.answers.Fault.{Fault}
use Rattle.gcl_core.specs.declared.answers.Fault.TheVariants.{Overflow, ZeroDivisor, BadBound}
use Rattle.gcl_core.specs.declared.answers.Limit.{Limit}
use Rattle.gcl_core.specs.declared.answers.Limit.TheVariants.{Turns, Attempts, Rounds}
use Rattle.gcl_core.specs.declared.answers.Outcome.{Outcome}
use Rattle.gcl_core.specs.declared.answers.Outcome.TheVariants as outcome
use Rattle.gcl_core.specs.meaning.Value.{State, Value}

abbrev pub same_fault : Fault → Fault → Bool
same_fault Overflow Overflow = true
same_fault ZeroDivisor ZeroDivisor = true
same_fault BadBound BadBound = true
same_fault _ _ = false

abbrev pub same_limit : Limit → Limit → Bool
same_limit Turns Turns = true
same_limit Attempts Attempts = true
same_limit Rounds Rounds = true
same_limit _ _ = false

abbrev pub same_outcome : Outcome → Outcome → Bool
same_outcome (outcome.Value v) (outcome.Value w) = int_eq v w
same_outcome (outcome.Fault f) (outcome.Fault g) = same_fault f g
same_outcome (outcome.Limit k) (outcome.Limit l) = same_limit k l
same_outcome _ _ = false

-- at the start of each round every variable is 0
abbrev pub zeros : ℕ → State
zeros count = replicate count (pos 0)

abbrev pub outcome_of : Value → Outcome
outcome_of (Ok v) = outcome.Value v
outcome_of (Err f) = outcome.Fault f

-- a value or a fault, and no limit
abbrev pub is_settled : Outcome → Bool
is_settled (outcome.Value v) = true
is_settled (outcome.Fault f) = true
is_settled (outcome.Limit k) = false
