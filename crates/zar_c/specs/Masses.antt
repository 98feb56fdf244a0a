-- What a call for masses, for what encloses masses or for expected bits is asked.
use Rattle.std.specs.Prelude.{ℕ, ◌==◌, ◌≤◌, Option, Some, None, if◌then◌else◌}
use Rattle.gcl_core.specs.declared.answers.Limits.{Limits}
use Rattle.gcl_core.specs.declared.rules.TheConstants.{MOST_LIMIT}

-- the limit that a number stands for, where 0 stands for none
abbrev pub limit_of : ℕ → Option ℕ
limit_of n = if n == 0 then None else Some n

-- limits by their numbers
abbrev pub limits_by : ℕ → ℕ → ℕ → Limits
limits_by turns attempts rounds = record { turns = turns; attempts = attempts; rounds = rounds }

-- each limit that there is is in range
pub record CanWeigh (turns attempts rounds : ℕ) : Type 0 where
  pub turns_in : turns ≤ MOST_LIMIT
  pub attempts_in : attempts ≤ MOST_LIMIT
  pub rounds_in : rounds ≤ MOST_LIMIT
