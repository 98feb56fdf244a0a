use Rattle.std.proofs.Common.{None}
use Rattle.zar_io.proofs.faulty_bits.FaultyBits.new.Goals as goal

pub returns-clause-left : goal.returns-clause-left
returns-clause-left c = c.in_ok-new.ensures.left (λ name. None)
