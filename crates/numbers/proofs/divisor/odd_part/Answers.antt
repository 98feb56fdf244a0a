use Rattle.numbers.proofs.Twos.{odd_times, odd_is}
use Rattle.numbers.proofs.divisor.odd_part.Goals as goal

pub returns-clause-value : goal.returns-clause-value
returns-clause-value c = odd_times c.args.n c.requires c.ranges.n.fits

pub returns-clause-odd : goal.returns-clause-odd
returns-clause-odd c = odd_is c.args.n c.requires c.ranges.n.fits
