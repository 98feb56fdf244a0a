-- Rows that are added.
use Rattle.std.specs.Prelude.{◌≡◌, ◌+◌}
use Rattle.gcl_core.specs.declared.answers.Outcome.{Outcome}
use Rattle.audit_walk.specs.Rows.{Rows, row_count, sum_of_counts}

-- the third rows count what the first two count, added up
pub record AddsUp (a b c : Rows) : Type 0 where
  pub each : (x : Outcome) → row_count x c ≡ row_count x a + row_count x b
  pub all : sum_of_counts c ≡ sum_of_counts a + sum_of_counts b
