-- How many streams of a range have runs that end in each way.
use Rattle.std.specs.Prelude.{ℕ, zero, suc, ◌+◌, ◌-◌, Bool, List}
use Rattle.gcl_core.specs.declared.answers.Answer.{Answer}
use Rattle.gcl_core.specs.declared.answers.TallyKey.{TallyKey}
use Rattle.gcl_core.specs.declared.answers.Limits.{Limits}
use Rattle.gcl_core.specs.meaning.Runs.{run_on}
use Rattle.gcl_core.specs.meaning.Syntax.{SourceProgram}
use Rattle.stream_runs.specs.declared.range.SeedRange.{SeedRange}
use Rattle.stream_runs.specs.Keys.{key_on}
use Rattle.tally_range.specs.Rows.{counted_at}

-- f of each of the n numbers from a on, added up
abbrev pub total_from : (ℕ → ℕ) → ℕ → ℕ → ℕ
total_from f a zero = 0
total_from f a (suc n) = f (a + n) + total_from f a n

module _ (run : List Bool → Answer) (seed budget : ℕ) where
  -- 1 where this is the key of the run on a stream, and else 0
  abbrev pub has_key : TallyKey → ℕ → ℕ
  has_key key stream = counted_at (key_on run seed budget stream) 1 key

  -- how many of the streams from `from` up to but not including `to` have runs with this key
  abbrev pub count_over : ℕ → ℕ → TallyKey → ℕ
  count_over from to key = total_from (has_key key) from (to - from)

-- how many streams of the range have runs with a key
abbrev pub count_range : (List Bool → Answer) → SeedRange → TallyKey → ℕ
count_range run r key = count_over run r.seed r.budget r.from r.to key

-- how many streams of the range have runs of the program with a key
abbrev pub count_on : SourceProgram → Limits → SeedRange → TallyKey → ℕ
count_on p l r key = count_range (run_on p l) r key
