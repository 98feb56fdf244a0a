use Rattle.std.proofs.Common.{refl}
use Rattle.rand_chacha.specs.Block.{column_round, diagonal_round}
use Rattle.first_blocks.proofs.rounds.double_round.Goals as goal

pub returns : goal.returns
unfolding column_round diagonal_round
returns c = λ j lt.
    rw (← c.quarter_round.ensures j lt, ← c.quarter_round-2.ensures j lt, ← c.quarter_round-3.ensures j lt, ← c.quarter_round-4.ensures j lt)
    (rw (← c.quarter_round-5.ensures j lt, ← c.quarter_round-6.ensures j lt, ← c.quarter_round-7.ensures j lt, ← c.quarter_round-8.ensures j lt) refl)
