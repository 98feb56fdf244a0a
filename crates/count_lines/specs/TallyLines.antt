-- The lines of how often runs end in each way on the streams of a range: exactly the rows of the tally, by the runs of the program.
use Rattle.std.specs.Prelude.{◌≡◌, ◌-◌, ℕ, List, map, count_by}
use Rattle.std.specs.List.{range_with_len}
use Rattle.gcl_core.specs.declared.answers.Limits.{Limits}
use Rattle.gcl_core.specs.declared.answers.TallyKey.{TallyKey}
use Rattle.gcl_core.specs.meaning.Order.{same_key}
use Rattle.gcl_core.specs.meaning.Runs.{run_on}
use Rattle.gcl_core.specs.meaning.Syntax.{SourceProgram}
use Rattle.report_text.specs.RowLines.{rows_text}
use Rattle.report_text.specs.Lines as report
use Rattle.stream_runs.specs.declared.range.SeedRange.{SeedRange}
use Rattle.stream_runs.specs.Keys.{key_on}
use Rattle.tally_range.specs.Rows.{Rows, IsTallyOf}

-- each key with how many streams have it
abbrev pub tally_text : Rows → List ℕ
tally_text rows = rows_text (λ row. report.tally_text row.0 row.1) rows

-- the keys of the runs of a program on the streams of a range, in their order
abbrev pub keys_on : SourceProgram → Limits → SeedRange → List TallyKey
keys_on p l r = map (key_on (run_on p l) r.seed r.budget) (range_with_len r.from (r.to - r.from))

-- how many of these runs have a key
abbrev pub runs_with : SourceProgram → Limits → SeedRange → TallyKey → ℕ
runs_with p l r key = count_by (λ other. same_key other key) (keys_on p l r)

pub record AreTallyLines (p : SourceProgram) (range : SeedRange) (l : Limits) (text : List ℕ) : Type 0 where
  pub rows : Rows
  pub counted : IsTallyOf (runs_with p l range) rows
  pub lines : text ≡ tally_text rows
