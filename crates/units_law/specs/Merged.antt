-- A table with each state once, in the order of the states, and none with 0 units. This project's own rule.
use Rattle.std.specs.Prelude.{ℕ, zero, suc, ◌+◌, ◌<◌, [], ◌∷◌, All}
use Rattle.std.specs.declared.cmp.Ordering.{Ordering}
use Rattle.std.specs.Ordering.{int_cmp}
use Rattle.std.specs.Option.{unwrap_or}
use Rattle.std.specs.Cmp.Lexicographic.{slice_cmp}
use Rattle.std.specs.BTreeMap.{insert_entry, is_at}
use Rattle.std.specs.Map.{keys_of, values_of, lookup}
use Rattle.std.specs.List.Sorted.{IsStrictlySortedBy}
use Rattle.gcl_core.specs.meaning.Value.{State}
use Rattle.units_law.specs.Units.{Units}

-- states in order, as lists of their values
abbrev pub order : State → State → Ordering
order = slice_cmp int_cmp

-- the units of a state; 0, where it has none
abbrev pub units_at : Units State → State → ℕ
units_at es s = unwrap_or (lookup (is_at (order s)) es) 0

-- w units more of a state; 0 units add nothing
abbrev pub put : Units State → State → ℕ → Units State
put es s zero = es
put es s (suc w) = insert_entry order es s (units_at es s + suc w)

-- the entries of a list, one after the other
abbrev pub put_all : Units State → Units State → Units State
put_all es [] = es
put_all es (e ∷ J) = put_all (put es e.0 e.1) J

abbrev pub merged : Units State → Units State
merged J = put_all [] J

-- each state once, in order, and none with 0 units
pub record IsMerged (es : Units State) : Type 0 where
  pub sorted : IsStrictlySortedBy order (keys_of es)
  pub some : All (λ w. 0 < w) (values_of es)
