use Rattle.std.proofs.Common.{◌≡◌, ◌++◌, ◌+◌, ◌-◌, ◌*◌, ◌≤◌, Bool, List, false}
use Rattle.gcl_core.specs.declared.answers.Answer.{Answer}
use Rattle.gcl_core.specs.declared.answers.TallyKey.{TallyKey}
use Rattle.passes.specs.Total.{total}
use Rattle.passes.specs.Numbers.{top}
use Rattle.claim_board.specs.Board.{blocks_of, dealt_to, had_none, IsPassOf, IsSamePass}
use Rattle.sampler_code.specs.Assembled.{IsRunOf}
use Rattle.sampler_run.specs.Held.{run_begun, set_back}
use Rattle.tally_range.specs.Sums.{count_in}
use Rattle.stream_runs.specs.declared.range.TheConstants.{STREAMS_OF_A_BLOCK}
use Rattle.tally_range.specs.Blocks.{count_block}
use Rattle.tally_range.specs.Shares.{pass_of, table_of, told_by}
use Rattle.tally_range.proofs.working.work.Given as goal

abbrev pub invariant-loop-block : goal.invariant-loop-block
invariant-loop-block g l = IsPassOf l.board (pass_of l.share) × IsSamePass (pass_of l.initial.share) (pass_of l.share) × (had_none (pass_of l.share) ≡ false)
    × (top (dealt_to (pass_of l.share)) ≤ blocks_of l.board)
    × (set_back l.state ≡ run_begun l.s l.l)
    × ((run : List Bool → Answer) → IsRunOf l.s l.l run → (key : TallyKey) → count_in (table_of l.share) key + count_in l.small key ≡ total (count_block run l.range key) (dealt_to (pass_of l.share)))
    × ((key : TallyKey) → count_in (table_of l.share) key + count_in l.small key ≤ STREAMS_OF_A_BLOCK * top (dealt_to (pass_of l.share)))
    × (told_by l.share ≡ told_by l.initial.share ++ dealt_to (pass_of l.share))

-- each block is above those before it
abbrev pub decreases-loop-block : goal.decreases-loop-block
decreases-loop-block g l = blocks_of l.board - top (dealt_to (pass_of l.share))
