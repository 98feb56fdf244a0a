-- Where a roll by weights stands.
use Rattle.std.specs.Prelude.{◌≡◌, ℕ, ◌+◌, ◌*◌, ◌<◌, ◌≤◌, Bool, List, length}
use Rattle.std.specs.List.{All, sum}
use Rattle.dice_roll.specs.declared.answers.Roll.{Roll}
use Rattle.weighted_roll.specs.declared.rules.TheConstants.{GREATEST_SUM, MOST_LABELS}
use Rattle.weighted_roll.specs.WeightedRoll.{weighted_from}
use Rattle.weighted_roll.specs.inner.Tables.{after_flips}

-- each remainder is below the sum b, and the string of number k is one of those that have no label
pub record Walk (b : ℕ) (rests : List ℕ) (k : ℕ) : Type 0 where
  pub below : All (λ r. r < b) rests
  pub within : (k + 1) * b ≤ sum rests

-- the same, of as many weights as a roll may have, with a sum that it may have
pub record StandsAmong (b : ℕ) (rests : List ℕ) (k : ℕ) : Type 0 where
  pub walk : Walk b rests k
  pub some : 0 < b
  pub small : b ≤ GREATEST_SUM
  pub few : length rests ≤ MOST_LABELS

-- the roll on w from the string of number k after t flips, with at most h more
abbrev pub rolls_on : ℕ → List ℕ → ℕ → ℕ → ℕ → List Bool → Roll
rolls_on b ws k h t w = weighted_from b h (after_flips b t ws) k t w

-- the string of number k after t flips is one of those that have no label, and the room holds the remainders once the columns
-- are passed
pub record Stands (b depth : ℕ) (ws room : List ℕ) (t k : ℕ) : Type 0 where
  pub within : (k + 1) * b ≤ sum (after_flips b t ws)
  pub long : length room ≡ length ws
  pub held : depth < t → room ≡ after_flips b t ws
