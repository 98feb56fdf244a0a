-- The units of a key of a table, and more.
use Rattle.std.specs.Prelude.{List}
use Rattle.std.specs.declared.cmp.Ordering.{Ordering}
use Rattle.std.specs.BTreeMap.{is_at}
use Rattle.std.specs.Map.{lookup}
use Rattle.std.specs.Option.{unwrap_or}
use Rattle.scaled_law.specs.Pairs.{Pair, added}

-- those of a key; none, where it has none
abbrev pub found : {K : Type 0} → (K → K → Ordering) → List (K × Pair) → K → Pair
found order J x = unwrap_or (lookup (is_at (order x)) J) (0, 0)

-- with w more
abbrev pub sum_of : {K : Type 0} → (K → K → Ordering) → List (K × Pair) → K → Pair → Pair
sum_of order J x w = added (found order J x) w
