-- What a run costs on average under limits, by what is counted of it. The statements say it as they say what a block does, and each turn
-- of a loop may cost something besides what its body costs. This project's own rule.
use Rattle.std.specs.Prelude.{ℕ, Bool, true, false, List, length, Some}
use Rattle.gcl_core.specs.declared.answers.Limits.{Limits}
use Rattle.gcl_core.specs.meaning.Blocks.{by_class, block_in}
use Rattle.gcl_core.specs.meaning.Outcomes.{zeros}
use Rattle.gcl_core.specs.meaning.Syntax.{Statements, SourceProgram}
use Rattle.gcl_core.specs.meaning.Value.{State}
use Rattle.gcl_core.specs.weighing.Fractions.{Fraction, zero_share, one, plus}
use Rattle.gcl_core.specs.weighing.WeightedEnds.{weighted_classes}
use Rattle.cost_law.specs.ExpectedBits.{Bits, end_bits, then_bits, on_average}
use Rattle.bits_law.specs.Price.{Price, price_of_draw}
use Rattle.bits_law.specs.Rounds.{RoundCost, expected_cost}

-- each turn costs 1 besides, or nothing
abbrev pub turn_price : Bool → Bits → Bits
turn_price false m = m
turn_price true m = λ more. plus one (m more)

-- by at most r attempts; where none gave a class, nothing is counted after them
abbrev pub class_price : Price → ℕ → List ℕ → (ℕ → Bits) → Bits
class_price price r cs go more =
    plus (price_of_draw price (Some r) cs) (on_average (weighted_classes cs (Some r)) (λ class. by_class class zero_share (λ i. go i more)))

-- under limits of n turns for each entry of a loop and r attempts for each draw
abbrev pub block_price : Price → (n r : ℕ) → Statements → State → Bits
block_price price n r = block_in end_bits then_bits (class_price price r) (turn_price price.turns) n

-- ---- programs
abbrev pub round_price : Price → SourceProgram → RoundCost
round_price price p n r = block_price price n r p.body (zeros (length p.names)) (λ s. zero_share)

abbrev pub expected_price : Price → SourceProgram → Limits → Fraction
expected_price price p = expected_cost p (round_price price p)
