use Rattle.std.proofs.Common.{None}
use Rattle.table_flow.specs.Tables.{block_flow}
use Rattle.table_flow.proofs.Positive.{p_all}
use Rattle.unlimited_law.proofs.BlockLimits.{all_fractions, all_positive}
use Rattle.unlimited_law.proofs.EndedBlocks.{sum_suffices, block_ended}
use Rattle.unlimited_law.proofs.blocks_that_end_settle_to_their_flow.Goals as goal

pub returns : goal.returns
returns c = λ n b I w fractions none.
    let h = all_positive I fractions in
    let o = block_ended n b w I h (sum_suffices (block_flow n None b I).ended (all_fractions _ (p_all n None b I w h).ended) none) in
    (o.turns, o.settles)
