-- Lines of narrow fractions.
use Rattle.std.proofs.Common.{◌≡◌, ℕ, zero, suc, ◌+◌, ◌*◌, ◌/◌, ◌%◌, ◌^◌, ◌≤◌, ◌<◌, List, [], ◌∷◌, ◌++◌, ap, ◌∙◌, arith}
use native.Mathlib.Nat.{mul-le-mul_left, div-le_self, div-le_of_le-mul}
use Rattle.std.specs.Prelude.{codes, decimal, ◌==◌, if◌then◌else◌}
use Rattle.std.specs.Ordering.{nat_cmp}
use Rattle.std.proofs.lemmas.Fmt.{decimal_by_steps_wide}
use Rattle.gcl_core.specs.declared.answers.Outcome.{Outcome}
use Rattle.report_text.specs.Decimals.{rounded, sign_text, digits_text, decimals_text}
use Rattle.report_text.specs.Lines.{outcome_text, fraction_text, mass_text, endless_text}
use Rattle.report_text.specs.declared.decimals.Rounding.TheVariants.{Nearest}
use Rattle.wide_text.specs.Numerals.{numeral, numeral_within}
use Rattle.wide_text.specs.WideLines.{wide_fraction_text, wide_decimals_text, wide_mass_text, wide_endless_text}
use Rattle.wide_text.proofs.Digits.{one_digit, more_digits, power_positive}

-- numerals of at most 64 digits are those of std
pub is_decimal : (n : ℕ) → n < 10 ^ 64 → numeral n ≡ decimal n
is_decimal n h = decimal_by_steps_wide (λ m ds. (most : ℕ) → m < most → numeral_within most m ≡ ds) one more n h (suc n) (omega arith)
  where
    one : (m : ℕ) → m < 10 → (most : ℕ) → m < most → numeral_within most m ≡ (48 + m) ∷ []
    one m l zero h = absurd (omega arith)
    one m l (suc most) h = one_digit most m l

    more : (m : ℕ) (ds : List ℕ) → 10 ≤ m → ((most : ℕ) → m / 10 < most → numeral_within most (m / 10) ≡ ds) → (most : ℕ) → m < most → numeral_within most m ≡ ds ++ (48 + m % 10) ∷ []
    more m ds l same zero h = absurd (omega arith)
    more m ds l same (suc most) h = more_digits most m l ∙ ap (λ t. t ++ (48 + m % 10) ∷ []) (same most (omega arith))

-- the whole part of a rounded fraction is no more than its two numbers together
whole_below : (a b d : ℕ) → rounded Nearest d (a, b) / 10 ^ d ≤ 2 * a + b
whole_below a b d =
    let n = div-le_self (2 * (a * 10 ^ d) + b) (2 * b) in
    let m : b * 1 ≤ b * 10 ^ d = mul-le-mul_left b (power_positive d) in
    div-le_of_le-mul (10 ^ d) (omega (arith, n, m))

fraction_is : (a b : ℕ) → a < 2 ^ 128 → b < 2 ^ 128 → wide_fraction_text (a, b) ≡ fraction_text (a, b)
fraction_is a b p q = ap (λ t. t ++ codes "/" ++ numeral b) (is_decimal a (omega arith)) ∙ ap (λ t. decimal a ++ codes "/" ++ t) (is_decimal b (omega arith))

decimals_are : (d a b : ℕ) → a < 2 ^ 128 → b < 2 ^ 128 → wide_decimals_text d (a, b) ≡ decimals_text Nearest d (a, b)
decimals_are d a b p q =
    let n = rounded Nearest d (a, b) in
    let w = whole_below a b d in
    ap (λ t. if d == 0 then [] else (sign_text (nat_cmp (a * 10 ^ d) (n * b)) ++ (t ++ codes "." ++ digits_text d (n % 10 ^ d)))) (is_decimal (n / 10 ^ d) (omega (arith, w)))

pub narrow_mass : (d : ℕ) (outcome : Outcome) (a b : ℕ) → a < 2 ^ 128 → b < 2 ^ 128 → wide_mass_text d outcome (a, b) ≡ mass_text d outcome (a, b)
narrow_mass d outcome a b p q =
    ap (λ t. outcome_text outcome ++ codes " mass " ++ t ++ wide_decimals_text d (a, b) ++ codes "\n") (fraction_is a b p q)
    ∙ ap (λ t. outcome_text outcome ++ codes " mass " ++ fraction_text (a, b) ++ t ++ codes "\n") (decimals_are d a b p q)

pub narrow_endless : (d a b : ℕ) → a < 2 ^ 128 → b < 2 ^ 128 → wide_endless_text d (a, b) ≡ endless_text d (a, b)
narrow_endless d a b p q =
    ap (λ t. codes "endless mass " ++ t ++ wide_decimals_text d (a, b) ++ codes "\n") (fraction_is a b p q)
    ∙ ap (λ t. codes "endless mass " ++ fraction_text (a, b) ++ t ++ codes "\n") (decimals_are d a b p q)
