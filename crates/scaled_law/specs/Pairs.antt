-- Tables whose weights are two whole numbers of units: what a state has at least, and what it has at most. Each state stands once in a
-- merged table, in order, and none that has no unit at most. This project's own rule.
use Rattle.std.specs.Prelude.{ℕ, zero, suc, ◌+◌, ◌≤◌, List, [], ◌∷◌, map, Option}
use Rattle.std.specs.Option.{unwrap_or}
use Rattle.std.specs.BTreeMap.{insert_entry, is_at}
use Rattle.std.specs.Map.{lookup}
use Rattle.gcl_core.specs.meaning.Value.{State}
use Rattle.gcl_core.specs.meaning.Blocks.{End}
use Rattle.table_flow.specs.Tables.{Entries, Kind}
use Rattle.units_law.specs.Merged.{order}
use Rattle.units_law.specs.Rounding.{Rounding}
use Rattle.units_law.specs.Units.{Units}

-- units at least, and at most
abbrev pub Pair : Type 0
Pair = ℕ × ℕ

abbrev pub added : Pair → Pair → Pair
added u w = (u.0 + w.0, u.1 + w.1)

-- a list of members, each with its units
abbrev pub Pairs : Type 0 → Type 0
Pairs A = List (A × Pair)

abbrev pub at_least : {A : Type 0} → Pairs A → Units A
at_least J = map (λ e. (e.0, e.1.0)) J

abbrev pub at_most : {A : Type 0} → Pairs A → Units A
at_most J = map (λ e. (e.0, e.1.1)) J

-- no member has more at least than at most
abbrev pub InOrder : {A : Type 0} → Pairs A → Type 0
InOrder [] = Unit {0}
InOrder (e ∷ J) = (e.1.0 ≤ e.1.1) × InOrder J

-- ---- merged

abbrev pub pair_at : Pairs State → State → Pair
pair_at es s = unwrap_or (lookup (is_at (order s)) es) (0, 0)

-- with more units of a state; nothing, where it gets none at most
abbrev pub put_pair : Pairs State → State → (l h : ℕ) → Pairs State
put_pair es s l zero = es
put_pair es s l (suc h) = insert_entry order es s (added (pair_at es s) (l, suc h))

abbrev pub put_pairs : Pairs State → Pairs State → Pairs State
put_pairs es [] = es
put_pairs es (e ∷ J) = put_pairs (put_pair es e.0 e.1.0 e.1.1) J

abbrev pub merged_pairs : Pairs State → Pairs State
merged_pairs J = put_pairs [] J

-- ---- a walk over such tables

abbrev pub counted_pairs : Entries (State × Pair) (End × Pair)
counted_pairs = record { state = λ e. e.0; moved_to = λ s e. (s, e.1); as_end = λ x e. (x, e.1) }

-- the products of what is at least are cut by one rule, and those of what is at most by another
module _ (low high : Rounding) where
  abbrev pub class_pairs : ℕ → Option ℕ → ℕ → Pairs State → Pairs State
  class_pairs b r c J = map (λ e. (e.0, (low.share b r c e.1.0, high.share b r c e.1.1))) J

  abbrev pub rest_pairs : ℕ → Option ℕ → Pairs State → Pairs State
  rest_pairs b r J = map (λ e. (e.0, (low.rest b r e.1.0, high.rest b r e.1.1))) J

  abbrev pub pairs_kind : Kind (State × Pair) (End × Pair)
  pairs_kind = record {
    entries = counted_pairs;
    tidy = merged_pairs;
    at_loop = λ J. [];
    class = class_pairs;
    rest = rest_pairs;
    shown = λ b r J. [];
    reached = λ ends J. [];
  }
