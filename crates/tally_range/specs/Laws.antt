-- Laws of counts over ranges.
use Rattle.std.specs.Prelude.{ℕ, ◌+◌, ◌≡◌, ◌≤◌, Bool, List}
use Rattle.gcl_core.specs.declared.answers.Answer.{Answer}
use Rattle.gcl_core.specs.declared.answers.Limits.{Limits}
use Rattle.gcl_core.specs.declared.answers.TallyKey.{TallyKey}
use Rattle.gcl_core.specs.meaning.Runs.{run_on}
use Rattle.gcl_core.specs.meaning.Syntax.{SourceProgram}
use Rattle.sampler_code.specs.Assembled.{Assembled, IsRunOf}
use Rattle.stream_runs.specs.declared.range.SeedRange.{SeedRange}
use Rattle.tally_range.specs.Counts.{count_over, count_range, count_on}

-- two ranges, the second of which begins where the first ends, count together what the range over both counts
abbrev pub RangesAddUp : Type 0
RangesAddUp = (run : List Bool → Answer) (seed budget a b c : ℕ) (key : TallyKey) → a ≤ b → b ≤ c →
    count_over run seed budget a c key ≡ count_over run seed budget a b key + count_over run seed budget b c key

-- where the runs of the program are runs of the code, any runs of the code count what those of the program do
abbrev pub CodeCountsAsProgram : Type 0
CodeCountsAsProgram = (code : Assembled) (p : SourceProgram) (l : Limits) → IsRunOf code l (run_on p l) →
    (run : List Bool → Answer) → IsRunOf code l run → (r : SeedRange) (key : TallyKey)
    → count_range run r key ≡ count_on p l r key
