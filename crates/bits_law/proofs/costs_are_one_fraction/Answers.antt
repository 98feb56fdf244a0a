use Rattle.bits_law.specs.RunPrice.{expected_price}
use Rattle.bits_law.proofs.PriceLaw.{price_some}
use Rattle.bits_law.proofs.OneFraction.{one_fraction}
use Rattle.bits_law.proofs.costs_are_one_fraction.Goals as goal

pub returns : goal.returns
returns c = λ price p cost other ok h g. one_fraction (expected_price price p) (price_some price p ok) cost other h g
