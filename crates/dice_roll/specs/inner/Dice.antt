-- The Fast Dice Roller as its two numbers go on: of the strings so far `range` have no label, and this is the one of them of number `number`.
use Rattle.std.specs.Prelude.{ℕ, zero, suc, ◌+◌, ◌-◌, ◌*◌, ◌<◌, ◌≤◌, Bool, ◌&&◌, List, [], ◌∷◌, Option, Some, None, nat_le, nat_lt, if◌then◌else◌}
use Rattle.std.specs.Int.{from_bool}
use Rattle.dice_roll.specs.declared.answers.Roll.{Roll}
use Rattle.dice_roll.specs.declared.answers.Roll.TheVariants.{Limit, MoreBits}
use Rattle.dice_roll.specs.declared.rules.TheConstants.{MOST_LABELS}
use Rattle.dice_roll.specs.FastRoll.{label_or}

-- the label of the string of this number, where there are so many
abbrev pub label_among : ℕ → ℕ → ℕ → Option ℕ
label_among m range number = if nat_le m range && nat_lt number m then Some number else None

-- a number without the strings that have a label, where there are so many
abbrev pub past_labels : ℕ → ℕ → ℕ → ℕ
past_labels m range x = if nat_le m range then x - m else x

-- the roll on w, after n flips, with at most h more
abbrev pub dice_from : ℕ → ℕ → ℕ → ℕ → ℕ → List Bool → Roll
dice_from m range number zero n w = Limit n
dice_from m range number (suc h) n [] = MoreBits n
dice_from m range number (suc h) n (b ∷ w) =
    label_or (label_among m (2 * range) (2 * number + from_bool b)) (n + 1)
    (dice_from m (past_labels m (2 * range) (2 * range)) (past_labels m (2 * range) (2 * number + from_bool b)) h (n + 1) w)

-- this is one of the strings that have no label, which are fewer than the labels
pub record StandsAmong (m range number : ℕ) : Type 0 where
  pub high : m ≤ MOST_LABELS
  pub small : range < m
  pub within : number < range
