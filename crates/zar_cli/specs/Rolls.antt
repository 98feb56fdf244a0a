-- What is said of a roll without bits: what its labels weigh, or that the fractions are too wide.
use Rattle.std.specs.Prelude.{ℕ, ◌==◌, List, [], ◌++◌, Option, Some, None, option_map, Result, Ok, Err, if◌then◌else◌}
use Rattle.dice_roll.specs.Shares.{shares_of}
use Rattle.numbers.specs.Fraction.{Fraction}
use Rattle.gcl_core.specs.declared.refusals.TheConstants.{TOO_WIDE}
use Rattle.report_text.specs.Lines.{each_text, flips_text}
use Rattle.report_text.specs.declared.refusals.Refusal.{Refusal}
use Rattle.report_text.specs.declared.refusals.Refusal.TheVariants.{Coded}
use Rattle.zar_cli.specs.declared.said.Said.{Said}
use Rattle.zar_cli.specs.declared.said.Said.TheVariants.{Shown}

-- a line of a weight, if it is above 0
abbrev pub if_above_zero : (Fraction → List ℕ) → Fraction → List ℕ
if_above_zero line weight = if weight.0 == 0 then [] else line weight

-- the weight of each label, and the weight left to the limit
abbrev pub shares_text : ℕ → Fraction → Fraction → List ℕ
shares_text d each left = if_above_zero (each_text d) each ++ if_above_zero (flips_text d) left

-- where the weights are fractions that are not too wide, with d decimals
abbrev pub weights_text : ℕ → ℕ → ℕ → Option (List ℕ)
weights_text labels flips d = option_map (λ shares. shares_text d shares.0 shares.1) (shares_of labels flips)

abbrev pub weights_said : Option (List ℕ) → Result Said Refusal
weights_said (Some text) = Ok (Shown text)
weights_said None = Err (Coded TOO_WIDE None)
