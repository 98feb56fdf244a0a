-- The lines of the runs on streams that follow one another: for each the line of its answer. This project's own rule.
use Rattle.std.specs.Prelude.{ℕ, ◌-◌, Bool, List, flat_map}
use Rattle.std.specs.List.{range_with_len}
use Rattle.gcl_core.specs.declared.answers.Answer.{Answer}
use Rattle.report_text.specs.Lines.{answer_text}
use Rattle.stream_runs.specs.declared.range.SeedRange.{SeedRange}
use Rattle.zar_io.specs.StreamBits.{stream_bits}

-- the line of the run on the first bits of a stream
abbrev pub line_on : (List Bool → Answer) → ℕ → ℕ → ℕ → List ℕ
line_on run seed budget stream = answer_text (run (stream_bits seed stream budget))

-- the lines of the streams from `from` up to but not including `to`
abbrev pub lines_over : (List Bool → Answer) → ℕ → ℕ → ℕ → ℕ → List ℕ
lines_over run seed budget from to = flat_map (line_on run seed budget) (range_with_len from (to - from))

-- those of the streams of a range, in their order
abbrev pub lines_of_range : (List Bool → Answer) → SeedRange → List ℕ
lines_of_range run r = lines_over run r.seed r.budget r.from r.to
