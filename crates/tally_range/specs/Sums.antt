-- What rows count of a key, whether they are a tally or not.
use Rattle.std.specs.Prelude.{ℕ}
use Rattle.gcl_core.specs.declared.answers.TallyKey.{TallyKey}
use Rattle.passes.specs.Total.{total}
use Rattle.tally_range.specs.Rows.{Rows, counted_at}

-- what the rows of a key count, added up
abbrev pub count_in : Rows → TallyKey → ℕ
count_in rows key = total (λ (r : TallyKey × ℕ). counted_at r.0 r.1 key) rows
