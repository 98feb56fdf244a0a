use Rattle.sampler_run.proofs.Words.{low_bits_first, low_bits_none}
use Rattle.sampler_run.proofs.stepping.take_bit.Goals as goal

pub returns-then-left-eq0 : goal.returns-then-left-eq0
returns-then-left-eq0 c =
    let none = low_bits_none c.args.left.now c.args.word c.if-left-eq0.true in
    (none, none)

pub returns : goal.returns
returns c = low_bits_first c.args.left.now c.args.word c.if-left-eq0.false
