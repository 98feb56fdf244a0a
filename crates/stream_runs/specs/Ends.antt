-- How a run ends, as two numbers. Which number stands for which end is this project's own rule.
use Rattle.std.specs.Prelude.{ℕ, ℤ, pos}
use Rattle.gcl_core.specs.declared.answers.Fault.TheVariants.{Overflow, ZeroDivisor, BadBound}
use Rattle.gcl_core.specs.declared.answers.Limit.TheVariants.{Turns, Attempts, Rounds}
use Rattle.gcl_core.specs.declared.answers.Outcome.TheVariants.{Value, Fault, Limit}
use Rattle.gcl_core.specs.declared.answers.Answer.{Answer}
use Rattle.gcl_core.specs.declared.answers.Answer.TheVariants.{Ended, MoreBits}
use Rattle.stream_runs.specs.declared.ends.TheConstants as ends

-- which end it is
abbrev pub end_of : Answer → ℕ
end_of (Ended (Value value) used) = ends.VALUE
end_of (Ended (Fault Overflow) used) = ends.OVERFLOW
end_of (Ended (Fault ZeroDivisor) used) = ends.ZERO_DIVISOR
end_of (Ended (Fault BadBound) used) = ends.BAD_BOUND
end_of (Ended (Limit Turns) used) = ends.TURNS
end_of (Ended (Limit Attempts) used) = ends.ATTEMPTS
end_of (Ended (Limit Rounds) used) = ends.ROUNDS
end_of (MoreBits used) = ends.MORE_BITS

-- its value, or 0 where it has none
abbrev pub value_of : Answer → ℤ
value_of (Ended (Value value) used) = value
value_of (Ended (Fault fault) used) = pos 0
value_of (Ended (Limit limit) used) = pos 0
value_of (MoreBits used) = pos 0
