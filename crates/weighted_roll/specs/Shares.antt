-- What the labels of a roll by weights weigh within some flips, and how many flips it makes on average, as fractions in lowest
-- terms. This project's own rule.
use Rattle.std.specs.Prelude.{ℕ, zero, suc, ◌^◌, Bool, ◌&&◌, List, [], ◌∷◌, ◌++◌, length, Option, Some, None, nat_le, nat_lt, if◌then◌else◌}
use Rattle.numbers.specs.Fraction.{Fraction, lowest}
use Rattle.dice_roll.specs.declared.rules.TheConstants.{MOST_WEIGHED_FLIPS}
use Rattle.weighted_roll.specs.WeightedRoll.{weighted}
use Rattle.weighted_roll.specs.Rollers.{decided, undecided, flips_on, add_strings}

-- f 0, f 1, .. up to but not f n
abbrev pub values_below : {A : Type 0} → (ℕ → A) → ℕ → List A
values_below f zero = []
values_below f (suc n) = values_below f n ++ f n ∷ []

-- the flips of rolls of at most T flips, added over the strings of T bits
abbrev pub all_flips : List ℕ → ℕ → ℕ
all_flips ws T = add_strings (flips_on (weighted ws)) T

-- the strings of T bits that give label i, those that give none, and the flips, each over all strings
abbrev pub share_of : List ℕ → ℕ → ℕ → Fraction
share_of ws T i = lowest (decided (weighted ws) i T, 2 ^ T)

abbrev pub share_left : List ℕ → ℕ → Fraction
share_left ws T = lowest (undecided (weighted ws) T, 2 ^ T)

abbrev pub flips_expected : List ℕ → ℕ → Fraction
flips_expected ws T = lowest (all_flips ws T, 2 ^ T)

-- where these are not too wide: half of the flips over half of the strings has two numbers below 2 ^ 128
abbrev pub are_narrow : List ℕ → ℕ → Bool
are_narrow ws T = nat_le T MOST_WEIGHED_FLIPS && nat_lt (all_flips ws T) (2 ^ 129)

-- the share of each label within T flips, what is left, and the expected number of flips
abbrev pub shares_of : List ℕ → ℕ → Option (List Fraction × Fraction × Fraction)
shares_of ws T =
    if are_narrow ws T then Some (values_below (share_of ws T) (length ws), share_left ws T, flips_expected ws T) else None
