-- A row as entries, each an unknown and its part, and two rows that are merged.
use Rattle.std.specs.Prelude.{ℕ, ◌+◌, ◌*◌, ◌==◌, if◌then◌else◌, List, [], ◌∷◌}

abbrev pub part_in : List (ℕ × ℕ) → ℕ → ℕ
part_in [] s = 0
part_in (e ∷ es) s = (if e.0 == s then e.1 else 0) + part_in es s

-- put by, left of the row, and left of the row of which a multiple is added
abbrev pub merging : ℕ → List (ℕ × ℕ) → List (ℕ × ℕ) → List (ℕ × ℕ) → ℕ → ℕ
merging f done row other s = part_in done s + (part_in row s + f * part_in other s)
