-- What is expected where nothing is limited, of bits and of whatever else a run costs: what the expected numbers under limits come to as all
-- limits grow. This project's own rule.
use Rattle.std.specs.Prelude.{ℕ, ◌≤◌, length, None}
use Rattle.gcl_core.specs.declared.answers.Limits.{Limits}
use Rattle.gcl_core.specs.meaning.Outcomes.{zeros}
use Rattle.gcl_core.specs.meaning.Syntax.{SourceProgram}
use Rattle.gcl_core.specs.weighing.Fractions.{Fraction, one, plus, divided_by_rest, AtMost}
use Rattle.gcl_core.specs.weighing.WeightedEnds.{sure}
use Rattle.cost_law.specs.ExpectedBits.{expected_bits}
use Rattle.table_flow.specs.Tables.{Table, tables_of}
use Rattle.unlimited_law.specs.LoopFree.{flowed_out}
use Rattle.unlimited_law.specs.Settling.{Outflow}
use Rattle.unlimited_law.specs.SettledMasses.{settled_failed}
use Rattle.bits_law.specs.Price.{Price, bits_price}
use Rattle.bits_law.specs.Reading.{BlockCosts}

-- each limit is at least so much
pub record AtLeast (least : ℕ) (l : Limits) : Type 0 where
  pub turns : least ≤ l.turns
  pub attempts : least ≤ l.attempts
  pub rounds : least ≤ l.rounds

-- no limit is less than in the other
pub record NoLess (l m : Limits) : Type 0 where
  pub turns : l.turns ≤ m.turns
  pub attempts : l.attempts ≤ m.attempts
  pub rounds : l.rounds ≤ m.rounds

-- Under whatever limits it is at most this number, and where all limits are great enough no less but for 1 / k, whatever k.
pub record ComesTo (under : Limits → Fraction) (number : Fraction) : Type 0 where
  pub within : (l : Limits) → AtMost (under l) number
  pub near : (k : ℕ) → 1 ≤ k → (least : ℕ) × ((l : Limits) → AtLeast least l → AtMost number (plus (under l) (1, k)))
  pub fraction : 1 ≤ number.1

-- where all limits are great enough it is more than k, whatever k
abbrev pub HasNoBound : (Limits → Fraction) → Type 0
HasNoBound under = (k : ℕ) → (least : ℕ) × ((l : Limits) → AtLeast least l → AtMost (k, 1) (under l))

-- ---- whatever a run costs
-- the body of a program costs so much in a round
abbrev pub RoundCosts : Price → SourceProgram → Table → Fraction → Type 0
RoundCosts price p J cost = BlockCosts price p.body (sure (zeros (length p.names))) J cost

-- what a round costs, over the probability that it does not fail
abbrev pub price_in_the_limit : SourceProgram → Outflow → Fraction → Fraction
price_in_the_limit p f cost = divided_by_rest cost (settled_failed p f)

-- ---- bits
abbrev pub AreExpected : SourceProgram → Fraction → Type 0
AreExpected p bits = ComesTo (expected_bits p) bits

abbrev pub AreUnbounded : SourceProgram → Type 0
AreUnbounded p = HasNoBound (expected_bits p)

-- the body of a program reads so many bits in a round
abbrev pub RoundReads : SourceProgram → Table → Fraction → Type 0
RoundReads = RoundCosts bits_price

-- what a round reads, over the probability that it does not fail
abbrev pub bits_in_the_limit : SourceProgram → Outflow → Fraction → Fraction
bits_in_the_limit = price_in_the_limit

-- ---- rounds
-- one, over the probability that it does not fail
abbrev pub rounds_in_the_limit : SourceProgram → Outflow → Fraction
rounds_in_the_limit p f = divided_by_rest one (settled_failed p f)

-- what a program without a loop settles to, with one turn as with any other number
abbrev pub free_outflow : SourceProgram → Outflow
free_outflow p = flowed_out (tables_of p 1 None)
