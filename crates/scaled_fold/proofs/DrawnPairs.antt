-- What a uniform draw makes of a table of pairs: what goes on, and what ends.
use Rattle.std.specs.Prelude.{ℕ, Option}
use Rattle.gcl_core.specs.meaning.Blocks.{End}
use Rattle.gcl_core.specs.meaning.Value.{State, Value}
use Rattle.table_flow.specs.Tables.{uniform_go}
use Rattle.units_law.specs.Down.{down}
use Rattle.scaled_law.specs.Pairs.{Pairs, pairs_kind}
use Rattle.scaled_law.specs.Up.{up}

abbrev pub drawn_pairs : ℕ → (State → Value) → Option ℕ → Pairs State → Pairs State
drawn_pairs x v r J = (uniform_go (pairs_kind down up) r x v J).next

abbrev pub undrawn_pairs : ℕ → (State → Value) → Option ℕ → Pairs State → Pairs End
undrawn_pairs x v r J = (uniform_go (pairs_kind down up) r x v J).ended
