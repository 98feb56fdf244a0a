use Rattle.unlimited_law.proofs.BlockLimits.{all_positive}
use Rattle.unlimited_law.proofs.FreeBlocks.{block_free}
use Rattle.unlimited_law.proofs.blocks_without_loops_settle_to_their_flow.Goals as goal

pub returns : goal.returns
returns c = λ n b I free w fractions. block_free n b free w I (all_positive I fractions)
