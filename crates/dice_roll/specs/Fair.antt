-- What the labels of a roll among m weigh. That the Fast Dice Roller gives each label alike is Lumbroso's; that it is
-- said of every number of bits is this project's own.
use Rattle.std.specs.Prelude.{◌≡◌, ◌↔◌, ℕ, ◌-◌, ◌*◌, ◌^◌, ◌<◌, Bool, false, List, ◌∷◌, ◌++◌, length, IsTrue}
use Rattle.dice_roll.specs.declared.answers.Roll.TheVariants.{Label, Limit}
use Rattle.dice_roll.specs.FastRoll.{quota, is_read_to, has_no_label, fast_roll}
use Rattle.dice_roll.specs.Weights.{count_strings, weight_of}

-- Within T flips each label weighs `quota m T` of 2 ^ T, and what is left weighs the rest.
pub record IsFair (m : ℕ) : Type 0 where
  -- the strings of at most T bits that are just read to a label
  pub each : (c T : ℕ) → c < m → weight_of (is_read_to m c) T ≡ quota m T
  -- none of these strings begins another
  pub alone : (c d : ℕ) (u w : List Bool) (b : Bool) → IsTrue (is_read_to m c u)
      → is_read_to m d (u ++ b ∷ w) ≡ false
  -- the strings of T bits that are read to no label
  pub left : (T : ℕ) → count_strings (has_no_label m) T ≡ 2 ^ T - m * quota m T
  -- the strings that are just read to a label are those on which a roll ends, at their last bit, with this label
  pub labels : (c : ℕ) (u : List Bool) → IsTrue (is_read_to m c u) ↔ (fast_roll m (length u) u ≡ Label c (length u))
  -- the strings that are read to no label are those on which a roll of as many flips reaches the limit
  pub limits : (u : List Bool) → IsTrue (has_no_label m u) ↔ (fast_roll m (length u) u ≡ Limit (length u))
