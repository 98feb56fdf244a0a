-- What the views of all passes are when a board was made, and what the last view is when it is closed. This project's own.
use Rattle.std.specs.Prelude.{ℕ, zero, suc, ◌≡◌, List, [], ◌∷◌, slice_index}
use Rattle.atomic_table.specs.Table as table
use Rattle.atomic_table.specs.Table.{Seen}

-- ---- one pass makes n others

-- the views, that of the maker last
abbrev pub views_made : {V : Type 0} → (V → V) → (V → V) → ℕ → V → List V
views_made makes made_by zero v = v ∷ []
views_made makes made_by (suc n) v = made_by v ∷ views_made makes made_by n (makes v)

-- a fact of each of them
abbrev pub EachMade : {V : Type 0} → (V → V) → (V → V) → (V → Type 0) → ℕ → V → Type 0
EachMade makes made_by Fact zero v = Fact v
EachMade makes made_by Fact (suc n) v = Fact (made_by v) × EachMade makes made_by Fact n (makes v)

-- ---- all passes are joined to the last

abbrev pub views_joined : {V : Type 0} → (V → V → V) → V → List V → V
views_joined joined spent [] = spent
views_joined joined spent (v ∷ []) = v
views_joined joined spent (v ∷ w ∷ views) = joined (views_joined joined spent (w ∷ views)) v

-- the rule held at the end, where a seat had the view v and the word was n
abbrev pub WasLast : {V : Type 0} → (table.State (Unit {0}) V → Type 0) → V → ℕ → Type 0
WasLast {V} holds v n = (s : table.State (Unit {0}) V) × (id : ℕ) × Seen holds id v s × (slice_index s.words 0 ≡ n)
