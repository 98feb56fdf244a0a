-- What a call for rolls is asked.
use Rattle.std.specs.Prelude.{ℕ, ◌≤◌, List}
use Rattle.dice_roll.specs.declared.rules.TheConstants.{MOST_FLIPS}
use Rattle.weighted_roll.specs.Weights.{AreWeights}
use Rattle.zar_c.specs.Places.{CanFill}
use Rattle.zar_c.specs.declared.asking.ZarRollLimits.{ZarRollLimits}

-- a roll may have the weights, the flips are in range, and the places can be filled
pub record CanRoll (ws : List ℕ) (l : ZarRollLimits) (first labels ends : ℕ) : Type 0 where
  pub weights : AreWeights ws
  pub flips : l.flips ≤ MOST_FLIPS
  pub places : CanFill l.budget first labels ends
