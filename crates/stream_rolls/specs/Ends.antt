-- How a roll ends, as two numbers. Which number stands for which end is this project's own rule.
use Rattle.std.specs.Prelude.{ℕ}
use Rattle.dice_roll.specs.declared.answers.Roll.{Roll}
use Rattle.dice_roll.specs.declared.answers.Roll.TheVariants.{Label, Limit, MoreBits}
use Rattle.stream_runs.specs.declared.ends.TheConstants.{MORE_BITS, VALUE}
use Rattle.stream_rolls.specs.declared.ends.TheConstants.{FLIPS}

-- which end it is: a label is a value
abbrev pub end_of : Roll → ℕ
end_of (Label label flips) = VALUE
end_of (Limit flips) = FLIPS
end_of (MoreBits flips) = MORE_BITS

-- its label, or 0 where it has none
abbrev pub label_of : Roll → ℕ
label_of (Label label flips) = label
label_of (Limit flips) = 0
label_of (MoreBits flips) = 0
