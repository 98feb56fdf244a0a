-- Rollers: whatever reads flips in order and gives a label, or none yet. The measure is that of fair bits, said in whole numbers.
use Rattle.std.specs.Prelude.{ℕ, zero, suc, ◌+◌, ◌==◌, Bool, true, false, cond, List, [], ◌∷◌, Option, Some, None}
use Rattle.dice_roll.specs.declared.answers.Roll.{Roll}
use Rattle.dice_roll.specs.declared.answers.Roll.TheVariants.{Label, Limit, MoreBits}
use Rattle.dice_roll.specs.Weights.{count_strings}

-- the label of a roll
abbrev pub label_in : Roll → Option ℕ
label_in (Label i n) = Some i
label_in (Limit n) = None
label_in (MoreBits n) = None

abbrev pub is_label : ℕ → Option ℕ → Bool
is_label i (Some j) = j == i
is_label i None = false

abbrev pub is_no_label : Option ℕ → Bool
is_no_label (Some j) = false
is_no_label None = true

-- how many of the strings of T bits give the label i
abbrev pub decided : (List Bool → Option ℕ) → ℕ → ℕ → ℕ
decided r i T = count_strings (λ w. is_label i (r w)) T

-- how many of the strings of T bits give no label yet
abbrev pub undecided : (List Bool → Option ℕ) → ℕ → ℕ
undecided r T = count_strings (λ w. is_no_label (r w)) T

-- the flips that it makes on a string: each front of the string that gives no label needs one more
abbrev pub flips_on : (List Bool → Option ℕ) → List Bool → ℕ
flips_on r [] = 0
flips_on r (x ∷ w) = cond (is_no_label (r [])) 1 0 + flips_on (λ v. r (x ∷ v)) w

-- the sum of f over the strings of t bits
abbrev pub add_strings : (List Bool → ℕ) → ℕ → ℕ
add_strings f zero = f []
add_strings f (suc t) = add_strings (λ u. f (false ∷ u)) t + add_strings (λ u. f (true ∷ u)) t
