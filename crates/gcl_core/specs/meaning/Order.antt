-- The order of outcomes: values ascend and come first, then the faults, then the limits; and that of the keys of a tally, and
-- whether two of these are the same. The runs that needed more bits come last. This project's own order.
use Rattle.std.specs.Prelude.{ℕ, ℤ, pos, Bool, true, false, nat_lt, int_lt, ◌==◌, ◌&&◌, ◌||◌}
use Rattle.gcl_core.specs.declared.answers.Fault.TheVariants.{Overflow, ZeroDivisor, BadBound}
use Rattle.gcl_core.specs.declared.answers.Limit.TheVariants.{Turns, Attempts, Rounds}
use Rattle.gcl_core.specs.declared.answers.Outcome.{Outcome}
use Rattle.gcl_core.specs.declared.answers.Outcome.TheVariants as outcome
use Rattle.gcl_core.specs.declared.answers.TallyKey.{TallyKey}
use Rattle.gcl_core.specs.declared.answers.TallyKey.TheVariants as key
use Rattle.gcl_core.specs.meaning.Outcomes.{same_outcome}

abbrev pub same_key : TallyKey → TallyKey → Bool
same_key (key.Outcome x) (key.Outcome y) = same_outcome x y
same_key key.MoreBits key.MoreBits = true
same_key _ _ = false

abbrev pub kind_number : Outcome → ℕ
kind_number (outcome.Value v) = 0
kind_number (outcome.Fault Overflow) = 1
kind_number (outcome.Fault ZeroDivisor) = 2
kind_number (outcome.Fault BadBound) = 3
kind_number (outcome.Limit Turns) = 4
kind_number (outcome.Limit Attempts) = 5
kind_number (outcome.Limit Rounds) = 6

-- the value, and 0 where there is none
abbrev pub value_in : Outcome → ℤ
value_in (outcome.Value v) = v
value_in _ = pos 0

abbrev pub is_before : Outcome → Outcome → Bool
is_before x y = nat_lt (kind_number x) (kind_number y) || ((kind_number x == kind_number y) && int_lt (value_in x) (value_in y))

abbrev pub is_key_before : TallyKey → TallyKey → Bool
is_key_before (key.Outcome x) (key.Outcome y) = is_before x y
is_key_before (key.Outcome x) key.MoreBits = true
is_key_before key.MoreBits k = false
