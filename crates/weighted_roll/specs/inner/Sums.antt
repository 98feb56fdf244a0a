-- What is known of weights without a list of them.
use Rattle.std.specs.Prelude.{◌≡◌, ℕ, List, [], ◌∷◌, length, max, Option, Some}
use Rattle.std.specs.List.{sum}

abbrev pub greatest_of : List ℕ → ℕ
greatest_of [] = 0
greatest_of (a ∷ ws) = max a (greatest_of ws)

-- they are there: so many, with this sum, and this is the greatest
pub record HasSums (weights : Option (List ℕ)) (count total greatest : ℕ) : Type 0 where
  pub ws : List ℕ
  pub there : weights ≡ Some ws
  pub counted : count ≡ length ws
  pub summed : total ≡ sum ws
  pub most : greatest ≡ greatest_of ws
