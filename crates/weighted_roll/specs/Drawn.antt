-- A draw by attempts as a roller, and what it may come to. This project's own rule.
use Rattle.std.specs.Prelude.{ℕ, ◌≤◌, Bool, List, Option, None}
use Rattle.gcl_core.specs.meaning.Reading.{Reading, gives, more_bits}
use Rattle.gcl_core.specs.meaning.Draw.{draw_on}
use Rattle.weighted_roll.specs.WeightedRoll.{weighted}
use Rattle.weighted_roll.specs.Rollers.{decided, undecided, flips_on, add_strings}

-- the class that was drawn
abbrev pub class_in : Reading (Option ℕ) → Option ℕ
class_in (gives class rest) = class
class_in more_bits = None

-- The class that a string gives within r attempts. Behind the limit of attempts there is none, and `flips_on` counts on.
abbrev pub drawn : List ℕ → ℕ → List Bool → Option ℕ
drawn ends r w = class_in (draw_on ends r w)

pub record StaysBehind (ends : List ℕ) (r : ℕ) (ws : List ℕ) : Type 0 where
  -- after T flips no more strings have the class i, for every T
  pub each : (i T : ℕ) → decided (drawn ends r) i T ≤ decided (weighted ws) i T
  -- and no fewer have none
  pub left : (T : ℕ) → undecided (weighted ws) T ≤ undecided (drawn ends r) T
  -- and no fewer flips are made before a class on average, at any limit N of flips
  pub flips : (N : ℕ) → add_strings (flips_on (weighted ws)) N ≤ add_strings (flips_on (drawn ends r)) N
