-- Rollers that keep their labels, and whether the shares of these come to what they have to. The measure is that of fair bits,
-- said in whole numbers.
use Rattle.std.specs.Prelude.{◌≡◌, ℕ, zero, suc, ◌+◌, ◌*◌, ◌^◌, ◌≤◌, ◌<◌, Bool, List, ◌++◌, length, Option, Some}
use Rattle.dice_roll.specs.FastRoll.{fast_roll}
use Rattle.weighted_roll.specs.Rollers.{label_in, decided}

-- the label that a string gives by the Fast Dice Roller
abbrev pub fast : ℕ → List Bool → Option ℕ
fast m w = label_in (fast_roll m (length w) w)

-- it reads flips in order: a label stays on every longer string
pub record Keeps (r : List Bool → Option ℕ) : Type 0 where
  pub keeps : (w v : List Bool) (i : ℕ) → r w ≡ Some i → r (w ++ v) ≡ Some i

-- its labels are below n
pub record HasLabels (r : List Bool → Option ℕ) (n : ℕ) : Type 0 where
  pub below : (w : List Bool) (i : ℕ) → r w ≡ Some i → i < n

-- the share of the strings that give label i does not stay above a / b: however late, it comes within 2 ^ -k / b of it, or below
pub record HasAtMost (r : List Bool → Option ℕ) (i a b : ℕ) : Type 0 where
  pub near : (k n : ℕ) → (T : ℕ) × (n ≤ T) × (2 ^ k * (b * decided r i T) ≤ (2 ^ k * a + 1) * 2 ^ T)

-- the share of the strings that give label i tends to a / b: from some length on it is within 2 ^ -k / b of it
pub record Tends (r : List Bool → Option ℕ) (i a b : ℕ) : Type 0 where
  pub near : (k : ℕ) → (n : ℕ) × ((T : ℕ) → n ≤ T
      → (2 ^ k * (b * decided r i T) ≤ (2 ^ k * a + 1) * 2 ^ T) × (2 ^ k * a * 2 ^ T ≤ 2 ^ k * (b * decided r i T) + 2 ^ T))

-- f 0 + .. + f (n - 1)
abbrev pub sum_below : (ℕ → ℕ) → ℕ → ℕ
sum_below f zero = 0
sum_below f (suc n) = f 0 + sum_below (λ k. f (suc k)) n
