use Rattle.std.proofs.Common.{length, None}
use Rattle.gcl_core.specs.meaning.Outcomes.{zeros}
use Rattle.gcl_core.specs.weighing.WeightedEnds.{sure}
use Rattle.gcl_core.proofs.Accepted.{checked_weights}
use Rattle.table_flow.specs.Tables.{tables_of}
use Rattle.table_flow.proofs.FlowWords.{draws_of}
use Rattle.table_flow.proofs.Positive.{p_sure}
use Rattle.unlimited_law.proofs.FreeBlocks as settling
use Rattle.bits_law.specs.Draws.{bits_of_draws}
use Rattle.bits_law.specs.InTheLimit.{free_outflow}
use Rattle.bits_law.proofs.BitsLaw.{are_expected}
use Rattle.bits_law.proofs.FreeReads.{block_free}
use Rattle.bits_law.proofs.programs_without_loops_read_their_draws.Goals as goal

pub returns : goal.returns
returns c = λ p ok free passes.
    let start = zeros (length p.names) in
    let w = checked_weights p ok in
    are_expected p ok (tables_of p 1 None).next (bits_of_draws (draws_of p 1 None)) (block_free 1 p.body free w (sure start) (p_sure start)) (free_outflow p)
    (settling.block_free 1 p.body free w (sure start) (p_sure start)) passes
