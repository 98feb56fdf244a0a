-- Rows of an outcome and a count: outcomes ascend, and counts are above 0. This project's own rule.
use Rattle.std.specs.Prelude.{◌≡◌, ◌+◌, ◌<◌, ℕ, true, List, [], ◌∷◌, if◌then◌else◌}
use Rattle.gcl_core.specs.declared.answers.Outcome.{Outcome}
use Rattle.gcl_core.specs.meaning.Order.{is_before}
use Rattle.gcl_core.specs.meaning.Outcomes.{same_outcome}

abbrev pub Rows : Type 0
Rows = List (Outcome × ℕ)

-- what the rows of an outcome count, added up; at most one row has it
abbrev pub row_count : Outcome → Rows → ℕ
row_count x [] = 0
row_count x (row ∷ rows) = (if same_outcome x row.0 then row.1 else 0) + row_count x rows

-- all counts, added up
abbrev pub sum_of_counts : Rows → ℕ
sum_of_counts [] = 0
sum_of_counts (row ∷ rows) = row.1 + sum_of_counts rows

-- the outcome comes before that of each row
abbrev pub IsBeforeAll : Outcome → Rows → Type 0
IsBeforeAll x [] = Unit {0}
IsBeforeAll x (row ∷ rows) = (is_before x row.0 ≡ true) × IsBeforeAll x rows

-- each outcome comes before all that stand after it
abbrev pub Ascend : Rows → Type 0
Ascend [] = Unit {0}
Ascend (row ∷ rows) = IsBeforeAll row.0 rows × Ascend rows

abbrev pub AreAboveZero : Rows → Type 0
AreAboveZero [] = Unit {0}
AreAboveZero (row ∷ rows) = (0 < row.1) × AreAboveZero rows

pub record IsRows (rows : Rows) : Type 0 where
  pub ascending : Ascend rows
  pub above_zero : AreAboveZero rows
