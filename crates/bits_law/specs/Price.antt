-- What is counted of a run, as a price of its parts: each attempt of a draw costs something, and each turn of a loop 1 or nothing. A draw by
-- at most so many attempts costs what those cost that are made, or by as many as it takes. Bits, draws and turns of loops are each a price.
-- This project's own rule.
use Rattle.std.specs.Prelude.{ℕ, ◌^◌, Bool, true, false, List, [], Option, Some, None}
use Rattle.gcl_core.specs.meaning.Draw.{last_end}
use Rattle.gcl_core.specs.weighing.Fractions.{Fraction, times, power_sum, divided_by_rest}
use Rattle.cost_law.specs.ExpectedBits.{undecided_from, number_bits, again_weight, on_average}
use Rattle.table_flow.specs.Tables.{ReachedDraws}

-- what one attempt costs is said at the scale of 2 ^ k, for numbers of k bits
pub record Price : Type 0 where
  pub attempt : List ℕ → ℕ
  pub turns : Bool

-- an attempt costs the bits that it reads
abbrev pub bits_price : Price
bits_price = record { attempt = λ ends. undecided_from ends (number_bits ends) (number_bits ends) []; turns = false }

-- an attempt costs the weight with which it is not rejected: a draw that is decided costs 1
abbrev pub draws_price : Price
draws_price = record { attempt = λ ends. last_end ends; turns = false }

-- each turn of a loop costs 1
abbrev pub turns_price : Price
turns_price = record { attempt = λ ends. 0; turns = true }

module _ (price : Price) where
  abbrev pub price_of_attempt : List ℕ → Fraction
  price_of_attempt ends = (price.attempt ends, 2 ^ number_bits ends)

  -- One attempt, and each further one where all those before it were rejected; by as many as it takes, one attempt over the probability that
  -- it is not rejected.
  abbrev pub price_of_draw : Option ℕ → List ℕ → Fraction
  price_of_draw (Some r) ends = times (price_of_attempt ends) (power_sum (again_weight ends) r)
  price_of_draw None ends = divided_by_rest (price_of_attempt ends) (again_weight ends)

  -- each draw by the weight with which it is reached, by as many attempts as it takes
  abbrev pub price_of_draws : ReachedDraws → Fraction
  price_of_draws D = on_average D (price_of_draw None)
