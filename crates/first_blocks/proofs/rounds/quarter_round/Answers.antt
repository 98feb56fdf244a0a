use Rattle.std.proofs.Common.{refl}
use Rattle.rand_chacha.specs.Block.{quarter_round}
use Rattle.first_blocks.proofs.rounds.quarter_round.Goals as goal

pub returns : goal.returns
unfolding quarter_round
returns c = λ j lt. rw (c.turned-b-2.ensures j lt, c.sum-c-2.ensures j lt, c.turned-d-2.ensures j lt, c.sum-a-2.ensures j lt, c.turned-b.ensures j lt, c.sum-c.ensures j lt, c.turned-d.ensures j lt, c.sum-a.ensures j lt) refl
