-- What flips made of a roll that is under way.
use Rattle.std.specs.Prelude.{◌≡◌, ℕ, ◌+◌, ◌-◌, ◌<◌, Bool, List, [], ◌++◌, length, take, Option, Some, None}
use Rattle.dice_roll.specs.declared.answers.Roll.{Roll}
use Rattle.dice_roll.specs.declared.answers.Roll.TheVariants.{MoreBits}
use Rattle.dice_roll.specs.FastRoll.{label_or}

-- Flips on the bits of `front` led from one place of a roll to another, or to a label, and from `read` flips to `after`. `rolls` says what
-- is rolled from a place with at most so many more flips, after so many, on some bits, and `flips` is the limit of all flips.
pub record HasFlipped {P : Type 0} (rolls : P → ℕ → ℕ → List Bool → Roll) (flips : ℕ) (old new : P) (read after : ℕ) (label : Option ℕ)
    (front : List Bool) : Type 0 where
  pub counted : after ≡ read + length front
  pub rolled : (rest : List Bool) → rolls old (flips - read) read (front ++ rest) ≡ label_or label after (rolls new (flips - after) after rest)
  pub needed : (k : ℕ) → k < length front → rolls old (flips - read) read (take k front) ≡ MoreBits (read + k)

-- flips on the first of these bits, so that the others are left
abbrev pub FlippedOn : {P : Type 0} → (P → ℕ → ℕ → List Bool → Roll) → ℕ → P → P → ℕ → ℕ → Option ℕ → List Bool → List Bool → Type 0
FlippedOn rolls flips old new read after label bits left =
    (front : List Bool) × (HasFlipped rolls flips old new read after label front) × (bits ≡ front ++ left)

-- the same, or there was no bit
abbrev pub FlippedOrNone : {P : Type 0} → (P → ℕ → ℕ → List Bool → Roll) → ℕ → P → P → ℕ → Option (Option ℕ × ℕ) → List Bool → List Bool → Type 0
FlippedOrNone rolls flips old new read None bits left = (bits ≡ []) × (left ≡ [])
FlippedOrNone rolls flips old new read (Some (label, after)) bits left = FlippedOn rolls flips old new read after label bits left
