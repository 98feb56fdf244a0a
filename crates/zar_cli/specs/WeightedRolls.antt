-- What is said of a roll by weights without bits: the shares of its labels, what is left, and the expected number of flips.
use Rattle.std.specs.Prelude.{ℕ, ◌+◌, pos, List, [], ◌∷◌, ◌++◌, Option, option_map}
use Rattle.numbers.specs.Fraction.{Fraction}
use Rattle.gcl_core.specs.declared.answers.Outcome.TheVariants.{Value}
use Rattle.report_text.specs.Lines.{mass_text, flips_text, cost_text}
use Rattle.weighted_roll.specs.Shares.{shares_of}
use Rattle.zar_cli.specs.Rolls.{if_above_zero}

-- a line for each label from i on whose share is above 0
abbrev pub label_lines : ℕ → ℕ → List Fraction → List ℕ
label_lines d i [] = []
label_lines d i (share ∷ shares) = if_above_zero (mass_text d (Value (pos i))) share ++ label_lines d (i + 1) shares

-- the share of each label, what is left to the limit, and how many flips a roll makes on average
abbrev pub shares_text : ℕ → List Fraction × Fraction × Fraction → List ℕ
shares_text d shares = label_lines d 0 shares.0 ++ if_above_zero (flips_text d) shares.1 ++ cost_text d shares.2

-- where these are fractions that are not too wide, with d decimals
abbrev pub labels_text : List ℕ → ℕ → ℕ → Option (List ℕ)
labels_text weights flips d = option_map (shares_text d) (shares_of weights flips)
