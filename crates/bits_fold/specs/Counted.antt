-- The price of what is counted of a run.
use Rattle.bits_law.specs.Price.{Price, bits_price, draws_price, turns_price}
use Rattle.bits_fold.specs.declared.counted.Counted.{Counted}
use Rattle.bits_fold.specs.declared.counted.Counted.TheVariants as counted

abbrev pub price_of : Counted → Price
price_of counted.Bits = bits_price
price_of counted.Draws = draws_price
price_of counted.Turns = turns_price
