use Rattle.scaled_fold.proofs.Powers.{bits_below, bits_above}
use Rattle.scaled_fold.proofs.limiting.+bits_of.Goals as goal

pub returns-else-n-eq0-clause-below : goal.returns-else-n-eq0-clause-below
returns-else-n-eq0-clause-below t c = bits_below c.args.n c.bits_of.result c.bits_of.ensures.below

pub returns-else-n-eq0-clause-above : goal.returns-else-n-eq0-clause-above
returns-else-n-eq0-clause-above t c some = bits_above c.args.n c.bits_of.result some c.bits_of.ensures.above c.bits_of.ensures.none
