use Rattle.linear_settling.proofs.Mixtures.{mixes_joined}
use Rattle.linear_settling.proofs.MixedBlocks.{block_mixes}
use Rattle.linear_settling.proofs.NoTable.{settles_together}
use Rattle.linear_settling.proofs.blocks_settle_linearly.Goals as goal

pub returns-clause-mixed : goal.returns-clause-mixed
returns-clause-mixed c = λ b w I J f g x some h k o q. block_mixes w some b x I J _ f g (mixes_joined w I J some h k) o q

pub returns-clause-states : goal.returns-clause-states
returns-clause-states c = λ b m x h o. settles_together b x m h o
