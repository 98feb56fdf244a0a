-- What the streams of a block count.
use Rattle.std.specs.Prelude.{ℕ, ◌+◌, min, Bool, List}
use Rattle.gcl_core.specs.declared.answers.Answer.{Answer}
use Rattle.gcl_core.specs.declared.answers.TallyKey.{TallyKey}
use Rattle.stream_runs.specs.declared.range.SeedRange.{SeedRange}
use Rattle.stream_runs.specs.declared.range.TheConstants.{STREAMS_OF_A_BLOCK}
use Rattle.stream_runs.specs.Blocks.{first_in_block}
use Rattle.tally_range.specs.Counts.{count_over}

-- how many streams of the block number j of the range have runs with a key
abbrev pub count_block : (List Bool → Answer) → SeedRange → TallyKey → ℕ → ℕ
count_block run r key j =
    count_over run r.seed r.budget (first_in_block r.from j) (min (first_in_block r.from j + STREAMS_OF_A_BLOCK) r.to) key
