use Rattle.attempt_bits.proofs.Stretches.{attempt_is}
use Rattle.attempt_bits.proofs.choices.arms_bits.Goals as goal

pub returns-clause-value : goal.returns-clause-value
returns-clause-value c = attempt_is c.args.ends.now c.bits_for.result c.last_end.result c.undecided.result c.last_end.ensures c.bits_for.ensures.value c.undecided.ensures.value
