-- The lines of rows, one behind the other.
use Rattle.std.specs.Prelude.{ℕ, List, [], ◌∷◌, ◌++◌}

abbrev pub rows_text : {A : Type 0} → (A → List ℕ) → List A → List ℕ
rows_text line [] = []
rows_text line (row ∷ rows) = line row ++ rows_text line rows
