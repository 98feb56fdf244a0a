-- The weights that a word of a call lists: numbers with a comma, the code 44, between two. This project's own rule.
use Rattle.std.specs.Prelude.{ℕ, ◌&&◌, ◌==◌, List, [], ◌∷◌, ◌++◌, length, Option, Some, None, nat_le, if◌then◌else◌}
use Rattle.weighted_roll.specs.declared.rules.TheConstants.{GREATEST_SUM, MOST_LISTED}
use Rattle.gcl_core.specs.text.Numbers.{number_in}
use Rattle.weighted_roll.specs.Weights.{are_weights}

-- a weight is a number of at most the greatest sum
abbrev pub weight_in : List ℕ → Option ℕ
weight_in part = number_in 0 GREATEST_SUM part

-- a weight before further ones, where all are weights
abbrev pub with_weight : Option ℕ → Option (List ℕ) → Option (List ℕ)
with_weight None further = None
with_weight (Some a) None = None
with_weight (Some a) (Some ws) = Some (a ∷ ws)

-- the weights of the parts between the commas, where the first part goes on from what was read of it
abbrev pub parts_from : List ℕ → List ℕ → Option (List ℕ)
parts_from part [] = with_weight (weight_in part) (Some [])
parts_from part (b ∷ bs) = if b == 44 then with_weight (weight_in part) (parts_from [] bs) else parts_from (part ++ b ∷ []) bs

-- weights that a roll may have, which are two at least, and not too many for a word
abbrev pub if_listed : Option (List ℕ) → Option (List ℕ)
if_listed None = None
if_listed (Some ws) = if nat_le (length ws) MOST_LISTED && are_weights ws then Some ws else None

-- the weights that a word lists, or none where it is no such list
abbrev pub weights_in : List ℕ → Option (List ℕ)
weights_in word = if_listed (parts_from [] word)
