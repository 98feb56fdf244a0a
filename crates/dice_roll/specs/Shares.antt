-- The weights of a draw as fractions.
use Rattle.std.specs.Prelude.{ℕ, ◌-◌, ◌*◌, ◌^◌, Option, Some, None, nat_le, if◌then◌else◌}
use Rattle.numbers.specs.Fraction.{Fraction, lowest}
use Rattle.dice_roll.specs.FastRoll.{quota}
use Rattle.dice_roll.specs.declared.rules.TheConstants.{MOST_WEIGHED_FLIPS}

-- the weight of each of the m labels within T flips, and what is left, in lowest terms; a denominator of 2 ^ 128 or more
-- does not fit
abbrev pub shares_of : ℕ → ℕ → Option (Fraction × Fraction)
shares_of m T =
    if nat_le T MOST_WEIGHED_FLIPS then Some (lowest (quota m T, 2 ^ T), lowest (2 ^ T - m * quota m T, 2 ^ T)) else None
