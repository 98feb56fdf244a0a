-- What is left of a share by the thread that worked on it.
use Rattle.std.specs.Prelude.{◌≡◌, ◌++◌, Ok, Bool, List}
use Rattle.gcl_core.specs.declared.answers.Answer.{Answer}
use Rattle.gcl_core.specs.declared.answers.Limits.{Limits}
use Rattle.gcl_core.specs.declared.answers.TallyKey.{TallyKey}
use Rattle.sampler_code.specs.Assembled.{Assembled, IsRunOf}
use Rattle.passes.specs.Total.{total}
use Rattle.claim_board.specs.declared.pass.Pass.{Pass}
use Rattle.claim_board.specs.Board.{dealt_to, IsSamePass}
use Rattle.stream_runs.specs.declared.range.SeedRange.{SeedRange}
use Rattle.tally_range.specs.declared.share.Entry.{Entry}
use Rattle.tally_range.specs.Rows.{Rows}
use Rattle.tally_range.specs.Sums.{count_in}
use Rattle.tally_range.specs.Blocks.{count_block}
use Rattle.tally_range.specs.Shares.{pass_of, table_of, told_by, IsCounted}

abbrev pub entry_pass : Entry → Pass
entry_pass e = pass_of e.share

abbrev pub entry_table : Entry → Rows
entry_table e = table_of e.share

-- the same pass, of whose blocks the gate was told, and where memory did not run out they are counted
pub record IsWorked (c : Assembled) (l : Limits) (r : SeedRange) (e f : Entry) : Type 0 where
  pub pass : IsSamePass (pass_of e.share) (pass_of f.share)
  pub entered : told_by f.share ≡ told_by e.share ++ dealt_to (pass_of f.share)
  pub counted : f.done ≡ Ok tt → IsCounted c l r f.share

-- what the tables count together is what the blocks that were dealt to the passes count
abbrev pub HaveCounted : Assembled → Limits → SeedRange → List Pass → List Rows → Type 0
HaveCounted c l r passes tables = (run : List Bool → Answer) → IsRunOf c l run → (key : TallyKey) →
    total (λ (t : Rows). count_in t key) tables ≡ total (λ (p : Pass). total (count_block run r key) (dealt_to p)) passes
