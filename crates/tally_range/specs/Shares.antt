-- What clauses say of the shares of workers.
use Rattle.std.specs.Prelude.{◌≡◌, ℕ, Bool, true, List, []}
use Rattle.gcl_core.specs.declared.answers.Answer.{Answer}
use Rattle.gcl_core.specs.declared.answers.Limits.{Limits}
use Rattle.gcl_core.specs.declared.answers.TallyKey.{TallyKey}
use Rattle.sampler_code.specs.Assembled.{Assembled, IsRunOf}
use Rattle.claim_board.specs.declared.pass.Board.{Board}
use Rattle.claim_board.specs.declared.pass.Pass.{Pass}
use Rattle.claim_board.specs.Board.{blocks_of, dealt_to, had_none, IsPassOf, IsNew}
use Rattle.passes.specs.Total.{total}
use Rattle.stream_runs.specs.declared.range.SeedRange.{SeedRange}
use Rattle.tally_range.specs.declared.share.Share.{Share}
use Rattle.tally_range.specs.Rows.{Rows}
use Rattle.tally_range.specs.Sums.{count_in}
use Rattle.stream_runs.specs.Blocks.{blocks_over}
use Rattle.tally_range.specs.Blocks.{count_block}
use Rattle.zar_io.specs.Visits.{blocks_told}

abbrev pub pass_of : Share → Pass
pass_of s = s.pass

abbrev pub table_of : Share → Rows
table_of s = s.table

-- the blocks that the gate was told of
abbrev pub told_by : Share → List ℕ
told_by s = blocks_told s.visits

-- a board for the blocks of the range, a pass of it that was dealt nothing yet, and an empty table
pub record IsReady (b : Board) (r : SeedRange) (s : Share) : Type 0 where
  pub blocks : blocks_of b ≡ blocks_over r.from r.to
  pub pass : IsPassOf b (pass_of s)
  pub new : IsNew (pass_of s)
  pub empty : table_of s ≡ []

-- the pass had None, and the table counts the runs of the code on the streams of the blocks dealt to it
pub record IsCounted (c : Assembled) (l : Limits) (r : SeedRange) (s : Share) : Type 0 where
  pub ended : had_none (pass_of s) ≡ true
  pub counts : (run : List Bool → Answer) → IsRunOf c l run → (key : TallyKey)
      → count_in (table_of s) key ≡ total (count_block run r key) (dealt_to (pass_of s))
