-- Rows that are written one after the other, of which each is narrow.
use Rattle.std.proofs.Common.{◌≡◌, ℕ, suc, zero, ◌+◌, ◌≤◌, ◌<◌, List, [], ◌∷◌, ◌++◌, length, take, take_all, drop, get_or, Some, sym, subst, arith}
use Rattle.std.specs.List.{All, slice_get}
use Rattle.std.proofs.lemmas.List.Elements.{All-more, All-same}
use Rattle.report_text.specs.RowLines.{rows_text}

-- the rows before a place are written, and each is narrow
pub record AreWritten {A : Type 0} (line : A → List ℕ) (Narrow : A → Type 0) (rows : List A) (i : ℕ) (text : List ℕ) : Type 0 where
  pub lines : text ++ rows_text line (drop i rows) ≡ rows_text line rows
  pub narrow : All Narrow (take i rows)

is_there : {A : Type 0} (rows : List A) (i : ℕ) (row : A) → slice_get rows i ≡ Some row → (i < length rows) × (get_or rows i row ≡ row)
is_there [] i row e = absurd (cc)
is_there (r ∷ rows) zero row e = let same : r ≡ row = cc in (omega arith, same)
is_there (r ∷ rows) (suc i) row e = let rest = is_there rows i row e in (omega (arith, rest.0), rest.1)

pub one_more : {A : Type 0} (P : A → Type 0) (rows : List A) (i : ℕ) (row : A) → slice_get rows i ≡ Some row → P row → All P (take i rows) → All P (take (i + 1) rows)
one_more P rows i row e holds all = let there = is_there rows i row e in All-more P rows i row there.0 all (subst P (sym there.1) holds)

pub all_narrow : {A : Type 0} (P : A → Type 0) (rows : List A) (i : ℕ) → length rows ≤ i → All P (take i rows) → All P rows
all_narrow P rows i h all = All-same P rows (take i rows) (sym (take_all i rows h)) all
