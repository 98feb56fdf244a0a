use Rattle.bits_law.proofs.PriceLaw.{price_rises}
use Rattle.bits_law.proofs.costs_rise_with_limits.Goals as goal

pub returns : goal.returns
returns c = λ price p l m ok h. price_rises price p ok l m h
