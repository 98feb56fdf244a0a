-- The law of hunts.
use Rattle.std.specs.Prelude.{◌≡◌, ℕ, Option}
use Rattle.hunt_range.specs.Sought.{Sought, LeastWanted}

-- what a hunt answers is one thing: there are no two least streams, and none beside a least one
abbrev pub LeastIsOne : Type 0
LeastIsOne = (s : Sought) (x y : Option ℕ) → LeastWanted s x → LeastWanted s y → x ≡ y
