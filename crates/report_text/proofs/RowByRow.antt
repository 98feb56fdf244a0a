-- Lines of rows that are written one after the other.
use Rattle.std.proofs.Common.{◌≡◌, ◌∙◌, ℕ, suc, zero, ◌+◌, ◌≤◌, List, [], ◌∷◌, ◌++◌, length, drop, Some, refl, sym, ap, arith, append_assoc}
use Rattle.std.specs.List.{slice_get}
use Rattle.std.proofs.lemmas.List.{append-nil}
use Rattle.report_text.specs.RowLines.{rows_text}

-- the rows from a place on begin with the row there
rows_from : {A : Type 0} (line : A → List ℕ) (rows : List A) (i : ℕ) (row : A) → slice_get rows i ≡ Some row
    → rows_text line (drop i rows) ≡ line row ++ rows_text line (drop (suc i) rows)
rows_from line [] i row e = absurd (cc)
rows_from line (r ∷ rows) zero row e = let same : r ≡ row = cc in ap (λ x. line x ++ rows_text line rows) same
rows_from line (r ∷ rows) (suc i) row e = rows_from line rows i row e

-- what was written, with the lines of the rows that are left, is the whole
pub rows_go : {A : Type 0} (line : A → List ℕ) (rows : List A) (i : ℕ) (row : A) (text whole : List ℕ) → slice_get rows i ≡ Some row
    → text ++ rows_text line (drop i rows) ≡ whole → (text ++ line row) ++ rows_text line (drop (i + 1) rows) ≡ whole
rows_go line rows i row text whole e so =
    let next : suc i ≡ i + 1 = omega arith in
    append_assoc text (line row) (rows_text line (drop (i + 1) rows))
    ∙ ap (λ k. text ++ (line row ++ rows_text line (drop k rows))) (sym next)
    ∙ ap (λ rest. text ++ rest) (sym (rows_from line rows i row e)) ∙ so

none_left : {A : Type 0} (line : A → List ℕ) (rows : List A) (i : ℕ) → length rows ≤ i → rows_text line (drop i rows) ≡ []
none_left line [] zero h = refl
none_left line [] (suc i) h = refl
none_left line (r ∷ rows) zero h = absurd (omega arith)
none_left line (r ∷ rows) (suc i) h = none_left line rows i (omega arith)

pub rows_end : {A : Type 0} (line : A → List ℕ) (rows : List A) (i : ℕ) (text whole : List ℕ) → length rows ≤ i
    → text ++ rows_text line (drop i rows) ≡ whole → text ≡ whole
rows_end line rows i text whole h so = sym (append-nil text) ∙ ap (λ rest. text ++ rest) (sym (none_left line rows i h)) ∙ so
