-- Rows of values that follow one another.
use Rattle.std.specs.Prelude.{ℕ, suc, pos, List, [], ◌∷◌}
use Rattle.gcl_core.specs.declared.answers.Outcome.TheVariants as outcome
use Rattle.gcl_core.specs.declared.answers.TallyKey.{TallyKey}
use Rattle.gcl_core.specs.declared.answers.TallyKey.TheVariants as key
use Rattle.tally_range.specs.Rows.{Rows}

-- the key of a value that is not below 0
abbrev pub value_key : ℕ → TallyKey
value_key value = key.Outcome (outcome.Value (pos value))

-- a row for each count: the first is that of this value, the next that of the next
unfoldable pub small_rows : ℕ → List ℕ → Rows
small_rows value [] = []
small_rows value (n ∷ counts) = (value_key value, n) ∷ small_rows (suc value) counts
