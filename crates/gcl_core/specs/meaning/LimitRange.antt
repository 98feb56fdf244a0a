-- Which limits a command takes. This project's own rule.
use Rattle.std.specs.Prelude.{◌≤◌}
use Rattle.gcl_core.specs.declared.answers.Limits.{Limits}
use Rattle.gcl_core.specs.declared.rules.TheConstants.{MOST_LIMIT}

-- the limits are in range
pub record InRange (l : Limits) : Type 0 where
  pub turns : l.turns ≤ MOST_LIMIT
  pub attempts : l.attempts ≤ MOST_LIMIT
  pub some_attempt : 1 ≤ l.attempts
  pub rounds : l.rounds ≤ MOST_LIMIT
  pub some_round : 1 ≤ l.rounds
