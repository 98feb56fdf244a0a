-- What a draw reads on average, by at most so many attempts or by as many as it takes.
use Rattle.std.specs.Prelude.{ℕ, List, Option}
use Rattle.gcl_core.specs.weighing.Fractions.{Fraction}
use Rattle.bits_law.specs.Price.{bits_price, price_of_draw, price_of_draws}
use Rattle.table_flow.specs.Tables.{ReachedDraws}

-- One attempt, over the probability that it is not rejected.
abbrev pub bits_of_draw : Option ℕ → List ℕ → Fraction
bits_of_draw = price_of_draw bits_price

-- each draw by the weight with which it is reached, by as many attempts as it takes
abbrev pub bits_of_draws : ReachedDraws → Fraction
bits_of_draws = price_of_draws bits_price
